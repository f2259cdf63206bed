use Rattle.idl_reader.proofs.BasedThings as laws
use Rattle.idl_reader.proofs.laws.texts_give_earlier_bases.Goals as goal

pub returns : goal.returns
returns c = laws.texts_give_earlier_bases
