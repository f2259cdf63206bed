-- The threads so far, and those of the lanes to come, are all.
use Rattle.thread_borrowing.proofs.Growing.{BuiltUpTo}
use Rattle.lane_audit.proofs.workers.pool_workers.Given as goal

abbrev pub invariant-loop-lane : goal.invariant-loop-lane
invariant-loop-lane l = BuiltUpTo l.lanes l.lane l.threads
