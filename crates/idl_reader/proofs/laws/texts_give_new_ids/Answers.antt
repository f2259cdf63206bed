use Rattle.idl_reader.proofs.NewIds as laws
use Rattle.idl_reader.proofs.laws.texts_give_new_ids.Goals as goal

pub returns : goal.returns
returns c = laws.texts_give_new_ids
