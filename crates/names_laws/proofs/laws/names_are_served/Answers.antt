use Rattle.names_laws.proofs.Placed.{names_served}
use Rattle.names_laws.proofs.laws.names_are_served.Goals as goal

pub returns : goal.returns
returns c = names_served
