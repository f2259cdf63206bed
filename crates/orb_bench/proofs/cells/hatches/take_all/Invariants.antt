use Rattle.turn_cell.specs.Calls.{IsOf}
use Rattle.orb_bench.proofs.cells.hatches.take_all.Given as goal

abbrev pub invariant-loop : goal.invariant-loop
invariant-loop g l = IsOf l.cell l.seat
