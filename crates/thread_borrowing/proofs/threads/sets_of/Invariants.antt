-- The sets so far are those of the threads so far.
use Rattle.std.proofs.Common.{take}
use Rattle.thread_borrowing.specs.Masks.{AreSetsOf}
use Rattle.thread_borrowing.proofs.threads.sets_of.Given as goal

abbrev pub invariant-loop-number : goal.invariant-loop-number
invariant-loop-number l = AreSetsOf (take l.number l.threads) l.sets
