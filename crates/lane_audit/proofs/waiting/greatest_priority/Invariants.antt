-- The greatest priority of the requests so far.
use Rattle.std.proofs.Common.{◌≡◌, take}
use Rattle.thread_borrowing.specs.Choice.{greatest, may_run}
use Rattle.lane_audit.proofs.waiting.greatest_priority.Given as goal

abbrev pub invariant-loop-asked : goal.invariant-loop-asked
invariant-loop-asked l = l.most ≡ greatest (λ job. may_run l.borrowing l.lane job.lane) (λ job. job.priority) (take l.asked-index l.requests)
