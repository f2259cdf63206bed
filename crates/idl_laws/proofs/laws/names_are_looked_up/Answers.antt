use Rattle.idl_laws.proofs.Points.{looks_up}
use Rattle.idl_laws.proofs.laws.names_are_looked_up.Goals as goal

pub returns : goal.returns
returns c = looks_up
