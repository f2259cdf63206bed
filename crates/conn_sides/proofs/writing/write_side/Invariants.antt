use Rattle.conn_sides.proofs.Collecting.{SaidSoFar}
use Rattle.conn_sides.proofs.writing.write_side.Given as goal

abbrev pub invariant-loop : goal.invariant-loop
invariant-loop g l = SaidSoFar l.pool.cell l.wrote l.fn.pass l.pass (g.O.Sink.state l.fn.sink) (g.O.Sink.state l.sink)
