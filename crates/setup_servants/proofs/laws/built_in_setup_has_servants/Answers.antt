use Rattle.setup_servants.proofs.BuiltInServed.{built_in_has_servants}
use Rattle.setup_servants.proofs.laws.built_in_setup_has_servants.Goals as goal

pub returns : goal.returns
returns c = built_in_has_servants
