-- The bit of the number is set.
use Rattle.std.proofs.Common.{refl}
use Rattle.thread_borrowing.proofs.MaskLaws.{set_gained}
use Rattle.thread_borrowing.proofs.mask.Mask.put.Goals as goal

pub returns : goal.returns
returns c = set_gained c.args.number c.args.self.now _ c.requires refl
