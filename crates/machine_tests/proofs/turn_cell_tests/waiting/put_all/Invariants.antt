use Rattle.turn_cell.specs.Calls.{IsOf}
use Rattle.machine_tests.proofs.turn_cell_tests.waiting.put_all.Given as goal

abbrev pub invariant-loop-number : goal.invariant-loop-number
invariant-loop-number g l = IsOf l.cell l.seat
