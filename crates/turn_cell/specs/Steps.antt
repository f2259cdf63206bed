-- What each step on the table's word tells the seat that makes it.
use Rattle.std.specs.Prelude.{◌≡◌, ◌≢◌, ℕ, ◌*◌, Bool, List, [], ◌∷◌, length, ◌++◌, Option, Some, None}
use Rattle.atomic_table.specs.Table.{Me, Step, rest}
use Rattle.turn_cell.specs.declared.entry.Entry.{Entry}
use Rattle.turn_cell.specs.declared.board.Core.{Core}
use Rattle.turn_cell.specs.declared.board.Known.{Known}
use Rattle.turn_cell.specs.declared.board.Terms.{Terms}
use Rattle.turn_cell.specs.Numbers.{Each}
use Rattle.turn_cell.specs.History.{of, StartsWith}
use Rattle.turn_cell.specs.Good.{Good, Fresh}
use Rattle.turn_cell.specs.Views.{looking, after, hearing}

module _ {O C R : Type 0} where
  -- giving the turn back
  abbrev pub released : Step (Option (Core O C R)) → Me (Option (Core O C R)) (Known O C R) → ℕ
      → Me (Option (Core O C R)) (Known O C R) → Type 0
  released st m r m' = m' ≡ (after m.0 m.1, rest m.1)

module _ {O C R : Type 0} (ready : O → C → Bool) (sound : O → C → Type 0) (step : O → C → O × R) (opens : O → Type 0)
    (fit : O → ℕ → List (Entry O C R) → C → Type 0) where
  -- what a seat learns that takes the turn, of the history and the slot's value
  abbrev pub Learns : Known O C R → List (Entry O C R) → Core O C R → Type 0
  Learns v h core = StartsWith h v.seen
      × ((x : Terms O) (n : ℕ) → v.terms ≡ Some x → v.number ≡ Some n
      → Good ready sound step opens fit x h × Fresh step x h core × (v.mine ≡ of n h))

  -- taking in what was given: what was seen and what was given both begin what is seen then
  abbrev pub heard : Step (Option (Core O C R)) → Me (Option (Core O C R)) (Known O C R) → ℕ
      → Me (Option (Core O C R)) (Known O C R) → Type 0
  heard st m r m' = (m' ≡ (hearing m.0, m.1)) × StartsWith (hearing m.0).seen m.0.seen × StartsWith (hearing m.0).seen m.0.told
      × ((x : Terms O) (n : ℕ) → m.0.terms ≡ Some x → m.0.number ≡ Some n
      → Good ready sound step opens fit x (hearing m.0).seen × (m.0.mine ≡ of n (hearing m.0).seen))

  -- taking the turn, or finding it held
  abbrev pub taken : Step (Option (Core O C R)) → Me (Option (Core O C R)) (Known O C R) → ℕ
      → Me (Option (Core O C R)) (Known O C R) → Type 0
  taken st m r m' =
      (r ≡ st.first → (h : List (Entry O C R)) × (core : Core O C R) × (m' ≡ (looking m.0 h, (0, Some core) ∷ m.1))
      × (r ≡ 2 * length h) × Learns m.0 h core)
      × (r ≢ st.first → m' ≡ m)

  -- the turn was taken, at this word, and the slot's value is in hand
  abbrev pub Took : Known O C R → Me (Option (Core O C R)) (Known O C R) → ℕ → Core O C R → Type 0
  Took v m' word core =
      (h : List (Entry O C R)) × (m' ≡ (looking v h, (0, None) ∷ [])) × (word ≡ 2 * length h) × Learns v h core

  -- what may go home: a good history that goes on from what was seen by calls of this seat alone, beside the object after it
  abbrev pub MayGo : Known O C R → Core O C R → Type 0
  MayGo v core = (x : Terms O) × (n : ℕ) × (v.terms ≡ Some x) × (v.number ≡ Some n)
      × Good ready sound step opens fit x core.history.list.items
      × ((rest : List (Entry O C R)) × (core.history.list.items ≡ v.seen ++ rest) × Each (λ e. e.caller ≡ n) rest)
      × Fresh step x core.history.list.items core
