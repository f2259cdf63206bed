use Rattle.turn_cell.specs.Calls.{IsOf}
use Rattle.orb_bench.proofs.cells.registers.put.Given as goal

abbrev pub invariant-loop-number : goal.invariant-loop-number
invariant-loop-number g l = IsOf l.cell l.seat
