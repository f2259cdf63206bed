use Rattle.idl_laws.proofs.Earlier.{declarations_stay}
use Rattle.idl_laws.proofs.laws.declarations_stay.Goals as goal

pub returns : goal.returns
returns c = declarations_stay
