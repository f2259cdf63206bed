use Rattle.std.proofs.Common.{◌-◌}
use Rattle.halls.proofs.Reading.{ReadSoFar}
use Rattle.halls.proofs.Steps.{making}
use Rattle.halls.proofs.side.take_reads.Given as goal

abbrev pub invariant-loop-taken : goal.invariant-loop-taken
invariant-loop-taken g l = record {
  of : g.H.Hall.is_of l.hall l.hand;
  so_far : ReadSoFar l.fn.hearing.judge.setup l.fn.hearing.judge.conn l.hearing l.taken (g.I.Source.state l.fn.source) (g.I.Source.state l.source)
      (making (g.H.Hall.held l.fn.hand) (g.O.Sink.state l.fn.sink)) (making (g.H.Hall.held l.hand) (g.O.Sink.state l.sink));
}

abbrev pub decreases-loop-taken : goal.decreases-loop-taken
decreases-loop-taken g l = 67108864 - l.taken
