-- Nothing is in the hands so far.
use Rattle.machine_tests.specs.Knowing.{AreEmpty}
use Rattle.machine_tests.proofs.replay.no_hands.Given as goal

abbrev pub invariant-loop : goal.invariant-loop
invariant-loop l = AreEmpty l.hands.items
