use Rattle.idl_reader.proofs.InheritedThings as laws
use Rattle.idl_reader.proofs.laws.texts_give_apart_operations.Goals as goal

pub returns : goal.returns
returns c = laws.texts_give_apart_operations
