-- The bit of the number is cleared.
use Rattle.std.proofs.Common.{refl, arith}
use Rattle.thread_borrowing.proofs.MaskLaws.{clear_lost}
use Rattle.thread_borrowing.proofs.mask.Mask.remove.Goals as goal

pub returns : goal.returns
returns c = clear_lost c.args.number c.args.self.now _ c.requires (omega arith) refl
