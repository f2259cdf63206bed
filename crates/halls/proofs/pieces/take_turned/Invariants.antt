use Rattle.std.specs.Prelude.{reverse, length}
use Rattle.halls.proofs.Feeding.{TurnedSoFar}
use Rattle.halls.proofs.Steps.{making}
use Rattle.halls.proofs.pieces.take_turned.Given as goal

abbrev pub invariant-loop-call : goal.invariant-loop-call
invariant-loop-call g l = record {
  of : g.H.Hall.is_of l.hall l.hand;
  so_far : TurnedSoFar (length (g.H.Hall.judged_by l.hall).objects) (reverse l.fn.turned.items) l.left.items
      (making (g.H.Hall.held l.fn.hand) (g.O.Sink.state l.fn.sink)) (making (g.H.Hall.held l.hand) (g.O.Sink.state l.sink));
}

abbrev pub decreases-loop-call : goal.decreases-loop-call
decreases-loop-call g l = length l.left.items
