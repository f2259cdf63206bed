-- The rule of the table after a turn cell. Word 0 is twice the length of the one history, plus 1 while a seat holds the
-- turn. Slot 0 has the object beside the history, and is out with the seat that holds the turn.
use Rattle.std.specs.Prelude.{◌≡◌, ◌≢◌, ℕ, ◌+◌, ◌*◌, Bool, true, false, if◌then◌else◌, List, length, slice_index, Option, Some}
use mathlib.Core.Option.{some}
use lib.ListN.{get_elem?}
use Rattle.atomic_table.specs.Table.{State}
use Rattle.turn_cell.specs.declared.entry.Entry.{Entry}
use Rattle.turn_cell.specs.declared.board.Core.{Core}
use Rattle.turn_cell.specs.declared.board.Known.{Known}
use Rattle.turn_cell.specs.declared.board.Terms.{Terms}
use Rattle.turn_cell.specs.declared.board.Gone.{Gone}
use Rattle.turn_cell.specs.Numbers.{Each, Made}
use Rattle.turn_cell.specs.History.{of, StartsWith}
use Rattle.turn_cell.specs.Good.{Good, Fresh}

module _ {O C R : Type 0} (heir : ℕ → ℕ → Option ℕ) (splits_of : ℕ → ℕ) (terms : Terms O) (history : List (Entry O C R)) where
  -- what is known of a seat that was joined
  abbrev pub IsGone : Gone O C R → Type 0
  IsGone d = (d.calls ≡ of d.number history) × (d.splits ≡ splits_of d.number) × Made heir splits_of d.number

  -- what a seat with a number knows
  abbrev pub IsNumbered : ℕ → Known O C R → Type 0
  IsNumbered n v = (v.terms ≡ Some terms) × (v.mine ≡ of n history) × (v.splits ≡ splits_of n) × Made heir splits_of n
      × Each IsGone v.ended

  -- what the seat at a place knows: what it has seen and was given begins the history, and it holds the turn or does not
  abbrev pub Knows : Bool → ℕ → ℕ → Known O C R → Type 0
  Knows held holder j v = StartsWith history v.seen × ((n : ℕ) → v.number ≡ Some n → IsNumbered n v)
      × (v.turn ≡ true → (held ≡ true) × (j ≡ holder) × (v.seen ≡ history)) × StartsWith history v.told

module _ {O C R : Type 0} (ready : O → C → Bool) (sound : O → C → Type 0) (step : O → C → O × R) (opens : O → Type 0)
    (fit : O → ℕ → List (Entry O C R) → C → Type 0) where
  -- the table's rule: one good history, of which the word tells the length and each seat knows a beginning; no two seats
  -- have one number, and while nobody holds the turn the slot has the object after the whole history
  pub record Kept (heir : ℕ → ℕ → Option ℕ) (terms : Terms O) (s : State (Option (Core O C R)) (Known O C R)) : Type 0 where
    pub history : List (Entry O C R)
    pub held : Bool
    pub holder : ℕ
    pub splits_of : ℕ → ℕ
    pub good : Good ready sound step opens fit terms history
    pub one_word : length s.words ≡ 1
    pub one_slot : length s.homes ≡ 1
    pub word : slice_index s.words 0 ≡ 2 * length history + (if held then 1 else 0)
    pub home : held ≡ false → (core : Core O C R) × (get_elem? s.homes 0 ≡ some (some (Some core))) × Fresh step terms history core
    pub each_view : (j : ℕ) (v : Known O C R) → get_elem? s.views j ≡ some v → Knows heir splits_of terms history held holder j v
    pub apart : (i j : ℕ) (v w : Known O C R) (n : ℕ) → get_elem? s.views i ≡ some v → get_elem? s.views j ≡ some w
        → v.number ≡ Some n → w.number ≡ Some n → i ≡ j
    pub gone : (i j : ℕ) (v w : Known O C R) (n m : ℕ) → get_elem? s.views i ≡ some v → get_elem? s.views j ≡ some w
        → v.number ≡ Some n → w.number ≡ Some m → Each (λ d. d.number ≢ n) w.ended
    pub callers : Each (λ e. Made heir splits_of e.caller) history
    pub unmade : (n : ℕ) → (Made heir splits_of n → ⊥) → splits_of n ≡ 0
    pub turn_is : held ≡ true
        → (v : Known O C R) × (n : ℕ) × (get_elem? s.views holder ≡ some v) × (v.number ≡ Some n) × (v.turn ≡ true)
