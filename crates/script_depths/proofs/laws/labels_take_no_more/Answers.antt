use Rattle.script_depths.proofs.Below.{mark_over}
use Rattle.script_depths.proofs.laws.labels_take_no_more.Goals as goal

pub returns : goal.returns
returns c = mark_over
