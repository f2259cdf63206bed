use Rattle.client_tests.specs.Seats.{AreIdle, AreBusy}
use Rattle.client_tests.proofs.many_callers.all_begin.Given as goal

abbrev pub invariant-loop : goal.invariant-loop
invariant-loop g l = AreIdle l.shared.cell l.callers.items × AreBusy l.shared.cell l.busy.items
