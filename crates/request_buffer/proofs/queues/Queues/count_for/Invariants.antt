-- The count so far and that of the queues to come make the whole.
use Rattle.orb_base.specs.Conn.{same_conn}
use Rattle.request_buffer.proofs.Counting.{CountSoFar}
use Rattle.request_buffer.proofs.queues.Queues.count_for.Given as goal

abbrev pub invariant-loop-number : goal.invariant-loop-number
invariant-loop-number l = CountSoFar (λ e. same_conn e.job.conn l.conn) l.self-inside.lanes.items l.number l.count
