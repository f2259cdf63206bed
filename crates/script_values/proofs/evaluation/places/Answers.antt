use Rattle.script_values.proofs.Parts.{terms_count}
use Rattle.script_values.proofs.evaluation.places.Goals as goal

pub returns : goal.returns
returns c ts = rw (terms_count ts c.args.elements.now) c.blanks.ensures
