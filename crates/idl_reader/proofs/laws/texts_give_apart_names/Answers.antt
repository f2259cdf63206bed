use Rattle.idl_reader.proofs.ToldThings as laws
use Rattle.idl_reader.proofs.laws.texts_give_apart_names.Goals as goal

pub returns : goal.returns
returns c = laws.texts_give_apart_names
