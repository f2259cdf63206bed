use Rattle.script_laws.proofs.LawProofs as laws
use Rattle.script_laws.proofs.laws.checked_methods_are_defined.Goals as goal

pub returns : goal.returns
returns c = laws.methods_defined
