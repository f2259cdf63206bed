use Rattle.idl_reader.proofs.TakenThings as laws
use Rattle.idl_reader.proofs.laws.repositories_take_texts.Goals as goal

pub returns : goal.returns
returns c = laws.repositories_take_texts
