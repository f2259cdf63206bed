-- The greatest rank of the threads so far.
use Rattle.std.proofs.Common.{◌≡◌, take}
use Rattle.thread_borrowing.specs.Choice.{greatest, can_start, rank}
use Rattle.lane_audit.proofs.scans.greatest_rank.Given as goal

abbrev pub invariant-loop-thread : goal.invariant-loop-thread
invariant-loop-thread l = l.most ≡ greatest (can_start l.borrowing l.lane) rank (take l.thread-index l.threads)
