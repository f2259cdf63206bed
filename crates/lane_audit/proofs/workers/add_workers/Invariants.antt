-- The list grew by as many threads as there were rounds.
use Rattle.thread_borrowing.proofs.Growing.{GrewBy}
use Rattle.lane_audit.proofs.workers.add_workers.Given as goal

abbrev pub invariant-loop : goal.invariant-loop
invariant-loop l = GrewBy l.fn.threads l.lane l.is_static l.counter l.threads
