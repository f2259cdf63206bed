-- None before the index may be run.
use Rattle.request_buffer.proofs.Searching.{NoneBelow}
use Rattle.request_buffer.proofs.queue.Queue.first_for.Given as goal

abbrev pub invariant-loop-at : goal.invariant-loop-at
invariant-loop-at l = NoneBelow l.sought l.self-inside.inner.items l.at
