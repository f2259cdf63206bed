-- What each of several callers over one link asks: own profile.
use Rattle.std.specs.Prelude.{◌≡◌, not, List, [], ◌∷◌}
use Rattle.client_stub.specs.Asking.{Asked}
use Rattle.client_stub.specs.Sending.{IsCall}
use Rattle.mux_runs.specs.declared.jobs.Asking.{Asking}

-- a caller asks this call: its request is that of the call but for the id, which is the link's to give, and a reply is due unless the
-- operation is oneway
pub record Asks (asked : Asked) (asking : Asking) : Type 0 where
  pub request : IsCall 0 asked asking.request
  pub due : asking.due ≡ not asked.operation.oneway

-- each caller does
abbrev pub AllAsk : Asked → List Asking → Type 0
AllAsk asked [] = Unit {0}
AllAsk asked (a ∷ more) = Asks asked a × AllAsk asked more
