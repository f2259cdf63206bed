-- An empty buffer keeps its limits.
use Rattle.std.proofs.Common.{arith}
use Rattle.request_buffer.proofs.Bounding.{bounded_empty, none_wait}
use Rattle.request_buffer.proofs.buffer.Buffer.new.Goals as goal

pub invariant_of-result : goal.invariant_of-result
invariant_of-result c =
    bounded_empty c.in_ok-queues.queues c.args.max_requests c.args.max_bytes c.in_ok-queues.ensures.stamped c.in_ok-queues.ensures.empty (omega arith) (omega arith)

pub returns-clause-empty : goal.returns-clause-empty
returns-clause-empty c = none_wait c.in_ok-queues.queues
