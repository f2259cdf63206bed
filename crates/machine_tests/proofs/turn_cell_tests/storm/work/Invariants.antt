use Rattle.turn_cell.specs.Calls.{IsOf}
use Rattle.turn_cell.specs.Team.{IsSame}
use Rattle.machine_tests.proofs.turn_cell_tests.storm.work.Given as goal

abbrev pub invariant-loop-i : goal.invariant-loop-i
invariant-loop-i g l = IsOf l.cell l.mine × IsSame l.fn.seat l.mine
