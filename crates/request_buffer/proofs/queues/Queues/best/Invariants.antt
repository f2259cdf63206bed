-- The best of the queues before the number.
use Rattle.request_buffer.proofs.Spots.{SpotSoFar}
use Rattle.request_buffer.proofs.queues.Queues.best.Given as goal

abbrev pub invariant-loop-number : goal.invariant-loop-number
invariant-loop-number l = SpotSoFar l.sought l.self l.number l.best
