use Rattle.script_laws.proofs.Served as laws
use Rattle.script_laws.proofs.laws.checked_servants_are_defined.Goals as goal

pub returns : goal.returns
returns c = laws.served_defined
