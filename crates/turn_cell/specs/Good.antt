-- What is true of a cell's history at any time.
use Rattle.std.specs.Prelude.{◌≡◌, ℕ, ◌≤◌, Bool, List, [], length}
use Rattle.turn_cell.specs.declared.entry.Entry.{Entry}
use Rattle.turn_cell.specs.declared.board.Core.{Core}
use Rattle.turn_cell.specs.declared.board.Terms.{Terms}
use Rattle.turn_cell.specs.History.{replay, Legal, FitFrom}

module _ {O C R : Type 0} where
  -- an entry of a history
  abbrev pub entry : ℕ → C → R → Entry O C R
  entry n call reply = record { caller = n; call = call; reply = reply }

module _ {O C R : Type 0} (ready : O → C → Bool) (sound : O → C → Type 0) (step : O → C → O × R) (opens : O → Type 0)
    (fit : O → ℕ → List (Entry O C R) → C → Type 0) where
  -- the cell opened well, its history is legal from there, each call was fit, and there are no more than it has room for
  abbrev pub Good : Terms O → List (Entry O C R) → Type 0
  Good terms h =
      opens terms.opening × Legal ready sound step terms.opening h × FitFrom fit terms.opening [] h × (length h ≤ terms.length)

module _ {O C R : Type 0} (step : O → C → O × R) (terms : Terms O) (history : List (Entry O C R)) where
  -- the slot's value is the object after the history, beside the history
  abbrev pub Fresh : Core O C R → Type 0
  Fresh core = (core.history.list.items ≡ history) × (core.history.length ≡ terms.length)
      × (core.object ≡ replay step terms.opening history)
