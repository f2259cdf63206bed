-- Each line so far is right, and the desk is at the state after them.
use Rattle.lane_machine.specs.State.{opening}
use Rattle.lane_audit.proofs.Runs.{Ran}
use Rattle.lane_audit.proofs.run.count_legal.Given as goal

abbrev pub invariant-loop-i : goal.invariant-loop-i
invariant-loop-i l = Ran (opening l.fn.pool l.fn.slots l.fn.per_slot) l.lines l.i l.desk l.offers
