use Rattle.client_tests.specs.Seats.{AreBusy}
use Rattle.client_tests.proofs.many_callers.all_wait.Given as goal

abbrev pub invariant-loop : goal.invariant-loop
invariant-loop g l = AreBusy l.shared.cell l.busy.items
