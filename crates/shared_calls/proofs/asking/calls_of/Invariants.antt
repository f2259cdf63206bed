use Rattle.std.proofs.Common.{◌≡◌, length}
use Rattle.client_stub.specs.Asking.{asked_of}
use Rattle.shared_calls.specs.Asking.{AllAsk, Asks}
use Rattle.shared_calls.proofs.asking.calls_of.Given as goal

abbrev pub invariant-loop : goal.invariant-loop
invariant-loop l = AllAsk (asked_of l.asked) l.calls.items × Asks (asked_of l.asked) l.asking × (length l.calls.items ≡ l.counter)
