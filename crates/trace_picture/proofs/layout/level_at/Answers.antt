use Rattle.trace_picture.proofs.Places.{none_there}
use Rattle.trace_picture.proofs.layout.level_at.Goals as goal

pub returns-in-None : goal.returns-in-None
returns-in-None c = none_there c.args.levels.now.items c.args.at c.in-None.ensures
