use Rattle.idl_reader.proofs.InheritedThings as laws
use Rattle.idl_reader.proofs.laws.texts_inherit_first.Goals as goal

pub returns : goal.returns
returns c = laws.texts_inherit_first
