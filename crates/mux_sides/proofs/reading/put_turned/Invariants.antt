use Rattle.std.proofs.Common.{◌-◌}
use Rattle.std.specs.Prelude.{reverse}
use Rattle.mux_sides.proofs.Arriving.{TurnedSoFar}
use Rattle.mux_sides.proofs.reading.put_turned.Given as goal

abbrev pub invariant-loop-count : goal.invariant-loop-count
invariant-loop-count g l = TurnedSoFar l.shared.cell (reverse l.fn.turned.items) l.left.items l.before l.count l.fn.seat l.seat

abbrev pub decreases-loop-count : goal.decreases-loop-count
decreases-loop-count g l = 4096 - l.count
