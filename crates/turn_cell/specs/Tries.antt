-- What one try of a call does, to the object and to what the seat knows.
use Rattle.std.specs.Prelude.{◌≡◌, ℕ, ◌<◌, ◌≤◌, Bool, true, false, List, [], ◌∷◌, length, ◌++◌, Option, Some}
use Rattle.atomic_table.specs.Table.{Me}
use Rattle.turn_cell.specs.declared.entry.Entry.{Entry}
use Rattle.turn_cell.specs.declared.board.Core.{Core}
use Rattle.turn_cell.specs.declared.board.Known.{Known}
use Rattle.turn_cell.specs.declared.board.Terms.{Terms}
use Rattle.turn_cell.specs.declared.tried.Tried.{Tried}
use Rattle.turn_cell.specs.declared.tried.Tried.TheVariants.{Replied, Worn, NotYet}
use Rattle.turn_cell.specs.History.{of, StartsWith}
use Rattle.turn_cell.specs.Good.{Good, entry}

module _ {O C R : Type 0} where
  -- its splits and those joined into it stay
  abbrev pub Stays : Known O C R → Known O C R → Type 0
  Stays v w = (w.splits ≡ v.splits) × (w.ended ≡ v.ended)

  -- a try changed nothing
  abbrev pub Unchanged : Core O C R → Core O C R → Type 0
  Unchanged core core' = (core'.object ≡ core.object) × (core'.history.list.items ≡ core.history.list.items)
      × (core'.history.length ≡ core.history.length)

module _ {O C R : Type 0} (ready : O → C → Bool) (step : O → C → O × R) (n : ℕ) (call : C) (core core' : Core O C R) where
  -- what one try of a call does to the object and its history
  abbrev pub Ran : Tried O C R → Type 0
  Ran (Replied r) = (ready core.object call ≡ true) × (length core.history.list.items < core.history.length)
      × (core'.object ≡ (step core.object call).0) × (r ≡ (step core.object call).1)
      × (core'.history.list.items ≡ core.history.list.items ++ entry n call r ∷ [])
      × (core'.history.length ≡ core.history.length)
  Ran (Worn c) = (c ≡ call) × Unchanged core core' × (core.history.length ≤ length core.history.list.items)
  Ran (NotYet c hold) = (c ≡ call) × Unchanged core core'

module _ {O C R : Type 0} (ready : O → C → Bool) (sound : O → C → Type 0) (step : O → C → O × R) (opens : O → Type 0)
    (fit : O → ℕ → List (Entry O C R) → C → Type 0) where
  -- the seat n of the cell: what it has seen is a good history, in which its own calls are `mine`
  abbrev pub Sits : Terms O → ℕ → Known O C R → Type 0
  Sits x n v = (v.terms ≡ Some x) × (v.number ≡ Some n) × Good ready sound step opens fit x v.seen × (v.mine ≡ of n v.seen)
      × (v.turn ≡ false)

  -- nothing was called, and no less is seen
  abbrev pub Looked : Terms O → ℕ → Known O C R → Known O C R → Type 0
  Looked x n v w = Sits x n w × StartsWith w.seen v.seen × (w.mine ≡ v.mine) × Stays v w

  -- what is seen ends with the call, which is one more of the seat's
  abbrev pub Called : Terms O → ℕ → C → R → Known O C R → Known O C R → Type 0
  Called x n call reply v w = Sits x n w
      × ((between : List (Entry O C R)) × (w.seen ≡ (v.seen ++ between) ++ entry n call reply ∷ []))
      × (w.mine ≡ v.mine ++ entry n call reply ∷ []) × Stays v w

  -- what one try of a call tells the seat
  abbrev pub Tries : Terms O → ℕ → C → Known O C R → Known O C R → Tried O C R → Type 0
  Tries x n call v w (Replied r) = Called x n call r v w
  Tries x n call v w (Worn c) = (c ≡ call) × Looked x n v w × (length w.seen ≡ x.length)
  Tries x n call v w (NotYet c hold) = (c ≡ call) × Looked x n v w

  -- the seat holds no slot, and sits on some terms
  abbrev pub IsSeated : ℕ → ℕ → Me (Option (Core O C R)) (Known O C R) → Type 0
  IsSeated n k m = (m.1 ≡ []) × (m.0.splits ≡ k) × ((x : Terms O) × Sits x n m.0)
