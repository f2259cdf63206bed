use Rattle.idl_reader.proofs.ApartThings as laws
use Rattle.idl_reader.proofs.laws.texts_give_apart_params.Goals as goal

pub returns : goal.returns
returns c = laws.texts_give_apart_params
