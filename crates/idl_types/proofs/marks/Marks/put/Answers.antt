use Rattle.std.proofs.Common.{arith}
use Rattle.idl_types.proofs.Marking.{marked_put}
use Rattle.idl_types.proofs.marks.Marks.put.Goals as goal

pub returns : goal.returns
returns c k = marked_put c.args.self.now.words c.args.n k (omega (arith, c.requires))
