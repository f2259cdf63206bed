-- The seats of a link in the tests.
use Rattle.std.specs.Prelude.{◌≡◌, ℕ, List, [], ◌∷◌}
use Rattle.turn_cell.specs.Seats.{CellView}
use Rattle.client_mux.specs.Machine.{Mux}
use Rattle.shared_link.specs.Link.{Sitting}
use Rattle.shared_link.specs.Roles.{CanCall, CanAwait}

-- a caller that called nothing
abbrev pub IsIdle : CellView Mux → Sitting → Type 0
IsIdle cell seat = CanCall cell 0 seat × (seat.mine ≡ [])

-- such callers
abbrev pub AreIdle : CellView Mux → List Sitting → Type 0
AreIdle cell [] = Unit {0}
AreIdle cell (s ∷ ss) = IsIdle cell s × AreIdle cell ss

-- a caller beside the id of a call that it may await
abbrev pub IsBusy : CellView Mux → Sitting × ℕ → Type 0
IsBusy cell p = CanCall cell 1 p.0 × CanAwait p.1 p.0

-- such callers
abbrev pub AreBusy : CellView Mux → List (Sitting × ℕ) → Type 0
AreBusy cell [] = Unit {0}
AreBusy cell (p ∷ ps) = IsBusy cell p × AreBusy cell ps
