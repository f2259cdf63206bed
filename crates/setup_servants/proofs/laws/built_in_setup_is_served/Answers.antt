use Rattle.setup_servants.proofs.BuiltInServed.{built_in_is_served}
use Rattle.setup_servants.proofs.laws.built_in_setup_is_served.Goals as goal

pub returns : goal.returns
returns c = built_in_is_served
