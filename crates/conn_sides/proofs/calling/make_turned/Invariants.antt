use Rattle.std.specs.Prelude.{reverse, length}
use Rattle.conn_sides.proofs.CallsMade.{TurnedSoFar}
use Rattle.conn_sides.proofs.calling.make_turned.Given as goal

abbrev pub invariant-loop-call : goal.invariant-loop-call
invariant-loop-call g l = TurnedSoFar l.pool.cell (reverse l.fn.turned.items) l.left.items l.fn.pass l.pass

abbrev pub decreases-loop-call : goal.decreases-loop-call
decreases-loop-call g l = length l.left.items
