use Rattle.idl_types.proofs.Marking.{unmarked}
use Rattle.idl_types.proofs.marks.Marks.none.Goals as goal

pub returns : goal.returns
returns c n = unmarked 8192 n
