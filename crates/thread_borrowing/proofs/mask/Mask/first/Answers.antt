-- The lowest bit is that of the least number.
use Rattle.std.proofs.Common.{refl, arith}
use Rattle.thread_borrowing.proofs.MaskLaws.{none_least, first_least}
use Rattle.thread_borrowing.proofs.mask.Mask.first.Goals as goal

pub returns-then-self-eq0 : goal.returns-then-self-eq0
returns-then-self-eq0 c = none_least c.args.self.now c.if-self-eq0.true

pub returns-else-self-eq0 : goal.returns-else-self-eq0
returns-else-self-eq0 c = first_least c.args.self.now _ c.if-self-eq0.false (omega arith) refl
