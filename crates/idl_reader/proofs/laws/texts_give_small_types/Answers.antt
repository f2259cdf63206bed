use Rattle.idl_reader.proofs.SmallThings as laws
use Rattle.idl_reader.proofs.laws.texts_give_small_types.Goals as goal

pub returns : goal.returns
returns c = laws.texts_give_small_types
