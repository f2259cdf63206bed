-- What the callers ask, one after another.
use Rattle.std.proofs.Common.{List, [], ◌∷◌, ◌++◌}
use Rattle.client_stub.specs.Asking.{Asked}
use Rattle.client_stub.specs.Sending.{IsSendable}
use Rattle.client_stub.proofs.Sendings.{call_short}
use Rattle.mux_runs.specs.Callers.{AreShort}
use Rattle.mux_runs.specs.declared.jobs.Asking.{Asking}
use Rattle.shared_calls.specs.Asking.{Asks, AllAsk}

pub all_more : (asked : Asked) (calls : List Asking) (a : Asking) → AllAsk asked calls → Asks asked a → AllAsk asked (calls ++ a ∷ [])
all_more asked [] a all one = (one, tt)
all_more asked (b ∷ more) a all one = (all.0, all_more asked more a all.1 one)

pub all_short : (asked : Asked) (calls : List Asking) → AllAsk asked calls → IsSendable asked → AreShort calls
all_short asked [] all h = tt
all_short asked (a ∷ more) all h = (call_short asked 0 a.request h all.0.request, all_short asked more all.1 h)
