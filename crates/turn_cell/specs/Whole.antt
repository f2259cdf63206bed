-- What the last seat of a cell knows, into which every other one was joined.
use Rattle.std.specs.Prelude.{◌≡◌, ℕ, Bool, List, [], ◌∷◌, map}
use Rattle.turn_cell.specs.declared.entry.Entry.{Entry}
use Rattle.turn_cell.specs.declared.board.Core.{Core}
use Rattle.turn_cell.specs.declared.board.Known.{Known}
use Rattle.turn_cell.specs.declared.board.Terms.{Terms}
use Rattle.turn_cell.specs.declared.board.Gone.{Gone}
use Rattle.turn_cell.specs.Numbers.{Each, Has}
use Rattle.turn_cell.specs.History.{of, StartsWith, replay}
use Rattle.turn_cell.specs.Good.{Good}

module _ {O C R : Type 0} where
  -- the numbers of a seat and of those joined into it, each beside its splits
  abbrev pub numbers : ℕ → ℕ → List (Gone O C R) → List (ℕ × ℕ)
  numbers n k ended = (n, k) ∷ map (λ (d : Gone O C R). (d.number, d.splits)) ended

module _ {O C R : Type 0} (ready : O → C → Bool) (sound : O → C → Type 0) (step : O → C → O × R) (opens : O → Type 0)
    (fit : O → ℕ → List (Entry O C R) → C → Type 0) where
  -- the one history, whole: what the seat n had seen begins it, the calls of each seat that was joined are those of its
  -- number, and no other number has any
  abbrev pub IsWholeOf : Terms O → ℕ → ℕ → List (Entry O C R) → List (Entry O C R) → List (Gone O C R)
      → List (Entry O C R) → Type 0
  IsWholeOf x n k seen mine ended h = Good ready sound step opens fit x h × StartsWith h seen × (mine ≡ of n h)
      × Each (λ d. d.calls ≡ of d.number h) ended
      × ((i : ℕ) → (Has i (numbers n k ended) → ⊥) → of i h ≡ [])

  -- what comes out of the slot at the end
  abbrev pub Ends : Terms O → ℕ → Known O C R → Core O C R → Type 0
  Ends x n v core = IsWholeOf x n v.splits v.seen v.mine v.ended core.history.list.items
      × (core.object ≡ replay step x.opening core.history.list.items)
