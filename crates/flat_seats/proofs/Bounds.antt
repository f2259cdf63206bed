-- Histories whose callers make so many calls at most.
use Rattle.std.proofs.Common.{◌≡◌, ℕ, zero, suc, Bool, true, false, ◌+◌, ◌<◌, ◌≤◌, ◌*◌, ◌==◌, List, [], ◌∷◌, length, if◌then◌else◌, sym, ap, arith, inl, inr, eq-eqb}
use Rattle.std.proofs.Math.Nat.{suc-mul, zero-mul}
use Rattle.std.proofs.lemmas.Bool.{cases_eq, cases_lt}
use Rattle.turn_cell.specs.declared.entry.Entry.{Entry}
use Rattle.turn_cell.specs.History.{of}
use Rattle.flat_seats.specs.Bounded.{AreAmong, HaveAtMost}

pub above : (a b : ℕ) → a ≤ b → (b ≡ a → ⊥) → a + 1 ≤ b
above a b l d = elim (cases_lt a b) [ inl x ↦ omega arith | inr x ↦ absurd (d (omega arith)) ]

module _ {O C R : Type 0} where
  -- how many entries so many callers have, from the first on
  abbrev total : ℕ → ℕ → List (Entry O C R) → ℕ
  total first zero h = 0
  total first (suc k) h = length (of first h) + total (first + 1) k h

  one_of : (n : ℕ) (b : Bool) (e : Entry O C R) (es : List (Entry O C R)) → length (of n es) ≤ length (if b then e ∷ of n es else of n es)
  one_of n true e es = omega arith
  one_of n false e es = omega arith

  -- an entry more makes no count less
  grows : (first k : ℕ) (e : Entry O C R) (es : List (Entry O C R)) → total first k es ≤ total first k (e ∷ es)
  grows first zero e es = omega arith
  grows first (suc k) e es = let a = one_of first (e.caller == first) e es in let b = grows (first + 1) k e es in omega arith

  own_of : (n : ℕ) (e : Entry O C R) (es : List (Entry O C R)) (b : Bool) → b ≡ true → length (if b then e ∷ of n es else of n es) ≡ length (of n es) + 1
  own_of n e es true q = omega arith
  own_of n e es false q = absurd (cc)

  -- an entry of one of these callers makes one count more
  counts : (first k : ℕ) (e : Entry O C R) (es : List (Entry O C R)) → first ≤ e.caller → e.caller < first + k → total first k es + 1 ≤ total first k (e ∷ es)
  counts first zero e es l u = absurd (omega arith)
  counts first (suc k) e es l u = elim (cases_eq e.caller first) [
    | inl same ↦ (let a = own_of first e es (e.caller == first) (eq-eqb e.caller first same) in let b = grows (first + 1) k e es in omega arith)
    | inr differs ↦ (let a = one_of first (e.caller == first) e es in let c = above first e.caller l differs in let b = counts (first + 1) k e es (omega arith) (omega arith) in omega arith)
  ]

  -- a history whose callers are these is no longer than all their counts
  in_all : (first k : ℕ) (h : List (Entry O C R)) → AreAmong first k h → length h ≤ total first k h
  in_all first k [] f = omega arith
  in_all first k (e ∷ es) f = let a = in_all first k es f.1 in let b = counts first k e es f.0.0 f.0.1 in omega arith

  at_most : (first k m : ℕ) (h : List (Entry O C R)) → HaveAtMost m h → total first k h ≤ k * m
  at_most first zero m h f = let c = zero-mul m in omega arith
  at_most first (suc k) m h f = let a = f first in let b = at_most (first + 1) k m h f in let c = suc-mul k m in omega arith

  -- and one that lacks a call leaves room
  short : (first k m n : ℕ) (h : List (Entry O C R)) → HaveAtMost m h → first ≤ n → n < first + k → length (of n h) < m → total first k h + 1 ≤ k * m
  short first zero m n h f l u s = absurd (omega arith)
  short first (suc k) m n h f l u s = elim (cases_eq n first) [
    | inl same ↦ (let a : length (of first h) ≡ length (of n h) = ap (λ (z : ℕ). length (of z h)) (sym same) in let b = at_most (first + 1) k m h f in let c = suc-mul k m in omega arith)
    | inr differs ↦ (let a = f first in let g = above first n l differs in let b = short (first + 1) k m n h f (omega arith) (omega arith) s in let c = suc-mul k m in omega arith)
  ]

  pub no_more : (first k m : ℕ) (h : List (Entry O C R)) → AreAmong first k h → HaveAtMost m h → length h ≤ k * m
  no_more first k m h f g = let a = in_all first k h f in let b = at_most first k m h g in omega arith

  pub has_room : (first k m n : ℕ) (h : List (Entry O C R)) → AreAmong first k h → HaveAtMost m h → first ≤ n → n < first + k → length (of n h) < m → length h < k * m
  has_room first k m n h f g l u s = let a = in_all first k h f in let b = short first k m n h g l u s in omega arith
