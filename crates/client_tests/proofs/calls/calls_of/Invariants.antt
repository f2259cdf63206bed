use Rattle.mux_runs.specs.Callers.{AreShort}
use Rattle.client_tests.proofs.calls.calls_of.Given as goal

abbrev pub invariant-loop : goal.invariant-loop
invariant-loop l = AreShort l.calls.items
