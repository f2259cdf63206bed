-- Sums over a history, by callers.
use Rattle.std.proofs.Common.{◌≡◌, ℕ, ◌+◌, ◌*◌, ◌<◌, ◌≤◌, suc, zero, Bool, true, false, ◌==◌, ◌||◌, if◌then◌else◌, List, [], ◌∷◌, length, inl, inr, sym, refl, ap, ◌∙◌, arith, eq-eqb}
use Rattle.std.specs.List.{sum_by, list_any}
use Rattle.std.proofs.Math.Nat.{suc-mul, zero-mul}
use Rattle.std.proofs.lemmas.List.Sums.{sum_by-cons}
use Rattle.std.proofs.lemmas.Bool.{cases_eq, or_cases, or_left, or_right, eqb-true}
use Rattle.client_mux.specs.Machine.{One, History}
use Rattle.client_mux.specs.Callers.{of}
use Rattle.flat_seats.proofs.Bounds.{above}

module _ (f : One → ℕ) where
  -- the sums of so many callers from this one on, and of the two after those
  abbrev pub all : ℕ → ℕ → History → ℕ
  all first zero h = sum_by f (of first h) + sum_by f (of (first + 1) h)
  all first (suc k) h = sum_by f (of first h) + all (first + 1) k h

  one_if : (b : Bool) (n : ℕ) (e : One) (es : History) → sum_by f (of n es) ≤ sum_by f (if b then e ∷ of n es else of n es)
  one_if true n e es = let c = sum_by-cons f e (of n es) in omega arith
  one_if false n e es = omega arith

  one_of : (n : ℕ) (e : One) (es : History) → sum_by f (of n es) ≤ sum_by f (of n (e ∷ es))
  one_of n e es = one_if (e.caller == n) n e es

  grows : (first k : ℕ) (e : One) (es : History) → all first k es ≤ all first k (e ∷ es)
  grows first zero e es = let a = one_of first e es in let b = one_of (first + 1) e es in omega arith
  grows first (suc k) e es = let a = one_of first e es in let b = grows (first + 1) k e es in omega arith

  own_if : (n : ℕ) (e : One) (es : History) (b : Bool) → b ≡ true → sum_by f (if b then e ∷ of n es else of n es) ≡ f e + sum_by f (of n es)
  own_if n e es true q = sum_by-cons f e (of n es)
  own_if n e es false q = absurd (cc)

  own_of : (n : ℕ) (e : One) (es : History) → e.caller ≡ n → sum_by f (of n (e ∷ es)) ≡ f e + sum_by f (of n es)
  own_of n e es c = own_if n e es (e.caller == n) (eq-eqb e.caller n c)

  counts : (first k : ℕ) (e : One) (es : History) → first ≤ e.caller → e.caller < first + k + 2 → f e + all first k es ≤ all first k (e ∷ es)
  counts first zero e es l u = elim (cases_eq e.caller first) [
    | inl same ↦ (let a = own_of first e es same in let b = one_of (first + 1) e es in omega arith)
    | inr differs ↦ (let c = above first e.caller l differs in let a = own_of (first + 1) e es (omega arith) in let b = one_of first e es in omega arith)
  ]
  counts first (suc k) e es l u = elim (cases_eq e.caller first) [
    | inl same ↦ (let a = own_of first e es same in let b = grows (first + 1) k e es in omega arith)
    | inr differs ↦ (let c = above first e.caller l differs in let a = one_of first e es in let b = counts (first + 1) k e es (omega arith) (omega arith) in omega arith)
  ]

  abbrev pub Within : ℕ → ℕ → History → Type 0
  Within first k [] = Unit {0}
  Within first k (e ∷ es) = (first ≤ e.caller) × (e.caller < first + k + 2) × Within first k es

  -- the sum is no more than those of its callers
  pub in_all : (first k : ℕ) (h : History) → Within first k h → sum_by f h ≤ all first k h
  in_all first k [] w = let z : sum_by f [] ≡ 0 = refl in omega arith
  in_all first k (e ∷ es) w = let c = sum_by-cons f e es in let a = in_all first k es w.2 in let b = counts first k e es w.0 w.1 in omega arith

  -- where each has no more than this
  pub all_most : (first k most rest one two : ℕ) (h : History) → one ≡ first + k → two ≡ first + k + 1 → ((n : ℕ) → first ≤ n → n < first + k → sum_by f (of n h) ≤ most)
      → sum_by f (of one h) + sum_by f (of two h) ≤ rest → all first k h ≤ k * most + rest
  all_most first zero most rest one two h p q m r =
      let a : sum_by f (of one h) ≡ sum_by f (of first h) = ap (λ (z : ℕ). sum_by f (of z h)) (let s : one ≡ first = omega arith in s) in
      let b : sum_by f (of two h) ≡ sum_by f (of (first + 1) h) = ap (λ (z : ℕ). sum_by f (of z h)) (let s : two ≡ first + 1 = omega arith in s) in
      let c = zero-mul most in omega arith
  all_most first (suc k) most rest one two h p q m r = let a = m first (omega arith) (omega arith) in
      let b = all_most (first + 1) k most rest one two h (omega arith) (omega arith) (λ n l u. m n (omega arith) (omega arith)) r in let c = suc-mul k most in omega arith

  -- one caller's is no more than the whole
  pub part : (n : ℕ) (h : History) → sum_by f (of n h) ≤ sum_by f h
  part n [] = omega arith
  part n (e ∷ es) = at (e.caller == n) (part n es) where
    at : (b : Bool) → sum_by f (of n es) ≤ sum_by f es → sum_by f (if b then e ∷ of n es else of n es) ≤ sum_by f (e ∷ es)
    at true l = let c = sum_by-cons f e es in let d = sum_by-cons f e (of n es) in omega arith
    at false l = let c = sum_by-cons f e es in omega arith

-- one for each entry, and more
pub each_one : (q : One → ℕ) (h : History) → sum_by (λ (e : One). 1 + q e) h ≡ length h + sum_by q h
each_one q [] = refl
each_one q (e ∷ es) = let a = each_one q es in let c = sum_by-cons (λ (y : One). 1 + q y) e es in let d = sum_by-cons q e es in omega arith

-- a list of ids, less one
abbrev pub has : ℕ → List ℕ → Bool
has z ids = list_any (λ (i : ℕ). i == z) ids

abbrev pub drop_one : ℕ → List ℕ → List ℕ
drop_one id [] = []
drop_one id (y ∷ ys) = if y == id then ys else y ∷ drop_one id ys

pub drop_length : (id : ℕ) (ids : List ℕ) → has id ids ≡ true → length ids ≡ length (drop_one id ids) + 1
drop_length id [] q = absurd (cc)
drop_length id (y ∷ ys) q = at (y == id) q (drop_length id ys) where
  at : (b : Bool) → (b || has id ys) ≡ true → (has id ys ≡ true → length ys ≡ length (drop_one id ys) + 1) → suc (length ys) ≡ length (if b then ys else y ∷ drop_one id ys) + 1
  at true q later = omega arith
  at false q later = let a = later q in omega arith

pub drop_has : (id z : ℕ) (ids : List ℕ) → (z ≡ id → ⊥) → has z ids ≡ true → has z (drop_one id ids) ≡ true
drop_has id z [] d q = absurd (cc)
drop_has id z (y ∷ ys) d q = at (y == id) refl (drop_has id z ys d) where
  at : (b : Bool) → (y == id) ≡ b → (has z ys ≡ true → has z (drop_one id ys) ≡ true) → has z (if b then ys else y ∷ drop_one id ys) ≡ true
  at true e later = elim (or_cases (y == z) (has z ys) q) [ inl a ↦ absurd (d (sym (eqb-true y z a) ∙ eqb-true y id e)) | inr a ↦ a ]
  at false e later = elim (or_cases (y == z) (has z ys) q) [ inl a ↦ or_left (y == z) (has z (drop_one id ys)) a | inr a ↦ or_right (y == z) (has z (drop_one id ys)) (later a) ]
