use Rattle.mux_sides.proofs.Sending.{SentSoFar}
use Rattle.mux_sides.proofs.writing.write_side.Given as goal

abbrev pub invariant-loop : goal.invariant-loop
invariant-loop g l = SentSoFar l.shared.cell l.fn.seat l.seat (g.O.Sink.state l.fn.sink) (g.O.Sink.state l.sink)
