-- From what the table's seat knows to what contracts see of a seat.
use Rattle.std.proofs.Common.{◌≡◌, ℕ, Bool, List, [], ◌∷◌, ◌++◌, Option, Some, sym, refl, ◌∙◌, append_assoc}
use Rattle.atomic_table.specs.Seated.{TableId}
use Rattle.atomic_table.specs.Table.{Me}
use Rattle.turn_cell.specs.declared.entry.Entry.{Entry}
use Rattle.turn_cell.specs.declared.board.Core.{Core}
use Rattle.turn_cell.specs.declared.board.Known.{Known}
use Rattle.turn_cell.specs.declared.board.Terms.{Terms}
use Rattle.turn_cell.specs.declared.tried.Tried.{Tried}
use Rattle.turn_cell.specs.declared.tried.Tried.TheVariants.{Replied, Worn, NotYet}
use Rattle.turn_cell.specs.Seats.{CellView, SeatView}
use Rattle.turn_cell.specs.Calls.{Looks, TriesOn}
use Rattle.turn_cell.specs.Good.{entry}
use Rattle.turn_cell.specs.Tries.{Sits, Looked, Tries, Stays, IsSeated}

module _ {O C R : Type 0} where
  abbrev pub seat_view : TableId → ℕ → ℕ → Known O C R → SeatView O C R
  seat_view id n k v = record { cell = id; terms = v.terms; number = n; seen = v.seen; mine = v.mine; splits = k; ended = v.ended }

module _ {O C R : Type 0} (ready : O → C → Bool) (sound : O → C → Type 0) (step : O → C → O × R) (opens : O → Type 0) (fit : O → ℕ → List (Entry O C R) → C → Type 0) where
  sits_after : (x : Terms O) (n : ℕ) (call : C) (v w : Known O C R) (t : Tried O C R) → Tries ready sound step opens fit x n call v w t → Sits ready sound step opens fit x n w
  sits_after x n call v w (Replied r) t = t.0
  sits_after x n call v w (Worn c) t = t.1.0
  sits_after x n call v w (NotYet c hold) t = t.1.0

  stays_after : (x : Terms O) (n : ℕ) (call : C) (v w : Known O C R) (t : Tried O C R) → Tries ready sound step opens fit x n call v w t → Stays v w
  stays_after x n call v w (Replied r) t = t.3
  stays_after x n call v w (Worn c) t = t.1.3
  stays_after x n call v w (NotYet c hold) t = t.1.3

  pub seated_after : (x : Terms O) (n k : ℕ) (call : C) (v : Known O C R) (m : Me (Option (Core O C R)) (Known O C R)) (t : Tried O C R) → m.1 ≡ [] → v.splits ≡ k → Tries ready sound step opens fit x n call v m.0 t → IsSeated ready sound step opens fit n k m
  seated_after x n k call v m t none cut tries = (none, (stays_after x n call v m.0 t tries).0 ∙ cut, (x, sits_after x n call v m.0 t tries))

  looks : (cell : CellView O) (n k : ℕ) (v w : Known O C R) (a b : TableId) → b ≡ a → v.terms ≡ Some cell.terms → Looked ready sound step opens fit cell.terms n v w → Looks ready sound step opens fit cell (seat_view a n k v) (seat_view b n k w)
  looks cell n k v w a b same terms l = ((same, l.0.0 ∙ sym terms, refl, refl, l.3.1, l.1), (l.0.2, l.0.3), l.2)

  pub tries_on : (cell : CellView O) (n k : ℕ) (call : C) (v w : Known O C R) (a b : TableId) (t : Tried O C R) → b ≡ a → v.terms ≡ Some cell.terms → Tries ready sound step opens fit cell.terms n call v w t → TriesOn ready sound step opens fit cell call (seat_view a n k v) (seat_view b n k w) t
  tries_on cell n k call v w a b (Replied r) same terms m = ((same, m.0.0 ∙ sym terms, refl, refl, m.3.1, (m.1.0 ++ entry n call r ∷ [], m.1.1 ∙ append_assoc v.seen m.1.0 (entry n call r ∷ []))), (m.0.2, m.0.3), m.2, m.1)
  tries_on cell n k call v w a b (Worn c) same terms m = (m.0, (looks cell n k v w a b same terms m.1, m.2))
  tries_on cell n k call v w a b (NotYet c hold) same terms m = (m.0, looks cell n k v w a b same terms m.1)
