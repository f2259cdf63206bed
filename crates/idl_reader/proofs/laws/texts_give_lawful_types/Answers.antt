use Rattle.idl_reader.proofs.LawfulThings as laws
use Rattle.idl_reader.proofs.laws.texts_give_lawful_types.Goals as goal

pub returns : goal.returns
returns c = laws.texts_give_lawful_types
