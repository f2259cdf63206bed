-- What seats are after a split, a join and a meeting.
use Rattle.std.proofs.Common.{◌≡◌, ℕ, ◌+◌, ◌≤◌, Bool, false, List, [], length, Option, Some, sym, ap, ◌∙◌, subst, arith}
use Rattle.std.specs.Prelude.{if◌then◌else◌}
use Rattle.std.proofs.Math.Dec.{leb-zero}
use Rattle.atomic_table.specs.Table.{Me}
use Rattle.turn_cell.specs.declared.entry.Entry.{Entry}
use Rattle.turn_cell.specs.declared.board.Core.{Core}
use Rattle.turn_cell.specs.declared.board.Known.{Known}
use Rattle.turn_cell.specs.declared.board.Terms.{Terms}
use Rattle.turn_cell.specs.History.{of}
use Rattle.turn_cell.specs.Views.{heir_in, longer, parted, child, joined, telling}
use Rattle.turn_cell.specs.Steps.{heard}
use Rattle.turn_cell.specs.Tries.{IsSeated}

module _ {O C R : Type 0} where
  pub longer_none : (a : List (Entry O C R)) → longer a [] ≡ a
  longer_none a = ap (λ (t : Bool). if t then a else []) (leb-zero (length a))

module _ {O C R : Type 0} (ready : O → C → Bool) (sound : O → C → Type 0) (step' : O → C → O × R) (opens : O → Type 0) (fit : O → ℕ → List (Entry O C R) → C → Type 0) where
  abbrev M : Type 0
  M = Me (Option (Core O C R)) (Known O C R)

  pub parted_seated : (n k : ℕ) (m m' : M) → IsSeated ready sound step' opens fit n k m → m' ≡ (parted m.0, m.1) → IsSeated ready sound step' opens fit n (k + 1) m'
  parted_seated n k m m' s e = subst (IsSeated ready sound step' opens fit n (k + 1)) (sym e) (s.0, ap (λ (z : ℕ). z + 1) s.1, (s.2.0, s.2.1))

  -- a child may hear
  pub child_counts : (heir : ℕ → ℕ → Option ℕ) (v : Known O C R) (m : M) → m ≡ (child heir v, []) → (n : ℕ) → m.0.number ≡ Some n → length m.0.mine ≤ length (of n m.0.seen)
  child_counts heir v m e n _ = subst (λ (z : M). length z.0.mine ≤ length (of n z.0.seen)) (sym e) (omega arith)

  pub child_idle : (heir : ℕ → ℕ → Option ℕ) (v : Known O C R) (m : M) → m ≡ (child heir v, []) → m.0.turn ≡ false
  child_idle heir v m e = ap (λ (z : M). z.0.turn) e

  -- a view that has heard sits
  pub heard_seated : (x : Terms O) (n k : ℕ) (st : Rattle.atomic_table.specs.Table.Step (Option (Core O C R))) (m m' : M) → m.1 ≡ [] → m.0.terms ≡ Some x → m.0.number ≡ Some n → m.0.turn ≡ false → m.0.splits ≡ k
      → heard ready sound step' opens fit st m 0 m' → IsSeated ready sound step' opens fit n k m'
  heard_seated x n k st m m' none terms number idle cut h = let l = h.3 x n terms number in
      subst (IsSeated ready sound step' opens fit n k) (sym h.0) (none, cut, (x, (terms, number, l.0, l.1, idle)))

  pub child_seated : (heir : ℕ → ℕ → Option ℕ) (n k p : ℕ) (st : Rattle.atomic_table.specs.Table.Step (Option (Core O C R))) (v m m' : M) → IsSeated ready sound step' opens fit n k v → m ≡ (child heir v.0, []) → heir n k ≡ Some p
      → heard ready sound step' opens fit st m 0 m' → IsSeated ready sound step' opens fit p 0 m'
  child_seated heir n k p st v m m' s e is h = let x = s.2.0 in let sits = s.2.1 in heard_seated x p 0 st m m' (ap (λ (z : M). z.1) e) (ap (λ (z : M). z.0.terms) e ∙ sits.0)
      (ap (λ (z : M). z.0.number) e ∙ (ap (λ o. heir_in heir o v.0.splits) sits.1 ∙ (ap (heir n) s.1 ∙ is))) (ap (λ (z : M). z.0.turn) e) (ap (λ (z : M). z.0.splits) e) h

  pub joined_seated : (n k : ℕ) (st : Rattle.atomic_table.specs.Table.Step (Option (Core O C R))) (v m m' : M) (w : Known O C R) → IsSeated ready sound step' opens fit n k v → m ≡ (joined v.0 w, v.1)
      → heard ready sound step' opens fit st m 0 m' → IsSeated ready sound step' opens fit n k m'
  joined_seated n k st v m m' w s e h = let x = s.2.0 in let sits = s.2.1 in heard_seated x n k st m m' (ap (λ (z : M). z.1) e ∙ s.0) (ap (λ (z : M). z.0.terms) e ∙ sits.0)
      (ap (λ (z : M). z.0.number) e ∙ sits.1) (ap (λ (z : M). z.0.turn) e ∙ sits.4) (ap (λ (z : M). z.0.splits) e ∙ s.1) h

  pub telling_seated : (n k : ℕ) (st : Rattle.atomic_table.specs.Table.Step (Option (Core O C R))) (v m m' : M) (w : Known O C R) → IsSeated ready sound step' opens fit n k v → m ≡ (telling v.0 w, v.1)
      → heard ready sound step' opens fit st m 0 m' → IsSeated ready sound step' opens fit n k m'
  telling_seated n k st v m m' w s e h = let x = s.2.0 in let sits = s.2.1 in heard_seated x n k st m m' (ap (λ (z : M). z.1) e ∙ s.0) (ap (λ (z : M). z.0.terms) e ∙ sits.0)
      (ap (λ (z : M). z.0.number) e ∙ sits.1) (ap (λ (z : M). z.0.turn) e ∙ sits.4) (ap (λ (z : M). z.0.splits) e ∙ s.1) h
