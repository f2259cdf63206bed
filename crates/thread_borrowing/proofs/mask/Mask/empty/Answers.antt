-- No bit is set.
use Rattle.std.proofs.Common.{refl}
use Rattle.thread_borrowing.proofs.MaskLaws.{none_least}
use Rattle.thread_borrowing.proofs.mask.Mask.empty.Goals as goal

pub returns : goal.returns
returns c = none_least _ refl
