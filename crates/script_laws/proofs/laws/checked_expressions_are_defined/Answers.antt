use Rattle.script_laws.proofs.LawProofs as laws
use Rattle.script_laws.proofs.laws.checked_expressions_are_defined.Goals as goal

pub returns : goal.returns
returns c = laws.expressions_defined
