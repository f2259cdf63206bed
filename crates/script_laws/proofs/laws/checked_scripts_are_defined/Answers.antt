use Rattle.script_laws.proofs.Held as laws
use Rattle.script_laws.proofs.laws.checked_scripts_are_defined.Goals as goal

pub returns : goal.returns
returns c = laws.scripts_defined
