-- The best of those before the index.
use Rattle.request_buffer.proofs.Searching.{BestSoFar}
use Rattle.request_buffer.proofs.queue.Queue.earliest.Given as goal

abbrev pub invariant-loop-at : goal.invariant-loop-at
invariant-loop-at l = BestSoFar l.sought l.self-inside.inner.items l.at l.best
