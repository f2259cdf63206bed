-- As many empty queues as there were rounds.
use Rattle.request_buffer.proofs.Spots.{Built}
use Rattle.request_buffer.proofs.queues.Queues.new.Given as goal

abbrev pub invariant-loop : goal.invariant-loop
invariant-loop l = Built l.room l.counter l.lanes.items
