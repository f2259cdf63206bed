use Rattle.script_laws.proofs.Texts as laws
use Rattle.script_laws.proofs.laws.checked_texts_are_defined.Goals as goal

pub returns : goal.returns
returns c = laws.texts_defined
