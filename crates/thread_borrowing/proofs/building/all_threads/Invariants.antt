-- The threads so far, and those of the lanes to come, are all.
use Rattle.thread_borrowing.proofs.Growing.{BuiltUpTo}
use Rattle.thread_borrowing.proofs.building.all_threads.Given as goal

abbrev pub invariant-loop-lane : goal.invariant-loop-lane
invariant-loop-lane l = BuiltUpTo l.lanes l.lane l.threads
