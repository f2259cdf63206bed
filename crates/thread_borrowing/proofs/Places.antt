-- Places in lists.
use Rattle.std.proofs.Common.{◌≡◌, ℕ, ◌+◌, ◌<◌, ◌≤◌, suc, zero, Bool, true, false, cond, not, ltb, eqb, ◌&&◌, List, [], ◌∷◌, ◌++◌, length, Some, None, inl, inr, ◌⊎◌, sym, refl, ap, ◌∙◌, subst, arith}
use Rattle.std.specs.Prelude.{slice_get, slice_set, remove, position, find, max, if◌then◌else◌}
use Rattle.std.specs.List.{sum_by, position_or_len, prefix_len}
use Rattle.std.proofs.lemmas.Option.{slice_get_within, get_or_from_slice_get, slice_get_cases, cond_some, none-some, same_Some}
use Rattle.std.proofs.lemmas.List.Quantifiers.{position-Some}
use Rattle.std.proofs.lemmas.List.Sums.{sum_by-set, sum_by-remove}
use Rattle.std.proofs.lemmas.List.Folds.{find_at}
use Rattle.std.proofs.lemmas.Bool.{ltb-true, ltb-false, cases_Bool, cases_lt, eqb-true, eq-eqb, and_parts, and_from, both_ways, not-true}
use Rattle.orb_base.proofs.Places.{cond_is_none}
use Rattle.thread_borrowing.specs.Choice.{greatest, first_greatest}

module _ {X : Type 0} where
  -- what is at a place that was looked up
  pub at_place : (p : X → Bool) (xs : List X) (i : ℕ) → position p xs ≡ Some i → (x : X) × (slice_get xs i ≡ Some x) × (p x ≡ true)
  at_place p xs i e = let h = cond_some (ltb (position_or_len p xs) (length xs)) (position_or_len p xs) i e in let w = ltb-true (position_or_len p xs) (length xs) h.0 in
      elim (slice_get_cases xs i).1 [
        | inl c ↦ (c.0, c.2, subst (λ (y : X). p y ≡ true) c.3 (position-Some p xs i c.0 e).1)
        | inr c ↦ absurd (omega (arith, h.1))
      ]

  -- the element found is the one at the place
  pub found_at : (p : X → Bool) (xs : List X) (i : ℕ) → position p xs ≡ Some i → find p xs ≡ slice_get xs i
  found_at p xs i e = find_at p xs ∙ ap (slice_get xs) (cond_some (ltb (position_or_len p xs) (length xs)) (position_or_len p xs) i e).1

  pub before_place : (p : X → Bool) (xs : List X) (i k : ℕ) (x : X) → position p xs ≡ Some i → k < i → slice_get xs k ≡ Some x → p x ≡ false
  before_place p xs i k x e below g = subst (λ (y : X). p y ≡ false) (get_or_from_slice_get xs k x x g) ((position-Some p xs i x e).2 k below)

  all_pass : (q : X → Bool) (xs : List X) (k : ℕ) (x : X) → length xs ≤ prefix_len q xs → slice_get xs k ≡ Some x → q x ≡ true
  all_pass q [] k x long g = absurd (none-some x g)
  all_pass q (y ∷ ys) zero x long g = let s = same_Some y x g in elim (cases_Bool (q y)) [ inl t ↦ ap q (sym s) ∙ t | inr f ↦ absurd (let z : suc (length ys) ≤ cond (q y) (1 + prefix_len q ys) 0 = long in let v : suc (length ys) ≤ 0 = subst (λ (b : Bool). suc (length ys) ≤ cond b (1 + prefix_len q ys) 0) f z in omega arith) ]
  all_pass q (y ∷ ys) (suc k) x long g = elim (cases_Bool (q y)) [
    | inl t ↦ (let z : suc (length ys) ≤ cond (q y) (1 + prefix_len q ys) 0 = long in let v : suc (length ys) ≤ 1 + prefix_len q ys = subst (λ (b : Bool). suc (length ys) ≤ cond b (1 + prefix_len q ys) 0) t z in all_pass q ys k x (omega arith) g)
    | inr f ↦ absurd (let z : suc (length ys) ≤ cond (q y) (1 + prefix_len q ys) 0 = long in let v : suc (length ys) ≤ 0 = subst (λ (b : Bool). suc (length ys) ≤ cond b (1 + prefix_len q ys) 0) f z in omega arith)
  ]

  -- where no place was found
  pub no_place : (p : X → Bool) (xs : List X) (k : ℕ) (x : X) → position p xs ≡ None → slice_get xs k ≡ Some x → p x ≡ false
  no_place p xs k x e g = let f = cond_is_none (ltb (position_or_len p xs) (length xs)) (position_or_len p xs) e in
      not-true (p x) (all_pass (λ y. not (p y)) xs k x (ltb-false (position_or_len p xs) (length xs) f) g)

  pub sum_set : (f : X → ℕ) (xs : List X) (i : ℕ) (x y : X) → slice_get xs i ≡ Some x → sum_by f (slice_set xs i y) + f x ≡ sum_by f xs + f y
  sum_set f xs i x y g = subst (λ (z : X). sum_by f (slice_set xs i y) + f z ≡ sum_by f xs + f y) (get_or_from_slice_get xs i x x g) (sum_by-set f xs i y x (slice_get_within xs i x g))

  pub sum_remove : (f : X → ℕ) (xs : List X) (i : ℕ) (x : X) → slice_get xs i ≡ Some x → sum_by f (remove xs i) + f x ≡ sum_by f xs
  sum_remove f xs i x g = subst (λ (z : X). sum_by f (remove xs i) + f z ≡ sum_by f xs) (get_or_from_slice_get xs i x x g) (sum_by-remove f xs i x (slice_get_within xs i x g))

  -- the greatest weight is the greatest
  pub at_most : (p : X → Bool) (w : X → ℕ) (xs : List X) (k : ℕ) (x : X) → slice_get xs k ≡ Some x → p x ≡ true → w x ≤ greatest p w xs
  at_most p w [] k x g t = absurd (none-some x g)
  at_most p w (y ∷ ys) zero x g t = let s = same_Some y x g in let u : p y ≡ true = ap p s ∙ t in subst (λ (b : Bool). w x ≤ (if b then max (w y) (greatest p w ys) else greatest p w ys)) (sym u) (omega (arith, ap w s))
  at_most p w (y ∷ ys) (suc k) x g t = let h = at_most p w ys k x g t in elim (p y) as (λ (b : Bool). w x ≤ (if b then max (w y) (greatest p w ys) else greatest p w ys)) [ true ↦ omega arith | false ↦ h ]

  greatest_yes : (p : X → Bool) (w : X → ℕ) (y : X) (ys : List X) → p y ≡ true → greatest p w (y ∷ ys) ≡ max (w y) (greatest p w ys)
  greatest_yes p w y ys t = ap (λ (b : Bool). if b then max (w y) (greatest p w ys) else greatest p w ys) t

  greatest_no : (p : X → Bool) (w : X → ℕ) (y : X) (ys : List X) → p y ≡ false → greatest p w (y ∷ ys) ≡ greatest p w ys
  greatest_no p w y ys f = ap (λ (b : Bool). if b then max (w y) (greatest p w ys) else greatest p w ys) f

  abbrev Top : (X → Bool) → (X → ℕ) → List X → ℕ → Type 0
  Top p w xs n = (((k : ℕ) (x : X) → slice_get xs k ≡ Some x → p x ≡ false) × (n ≡ 0)) ⊎ ((j : ℕ) × (y : X) × (slice_get xs j ≡ Some y) × (p y ≡ true) × (w y ≡ n))

  none_more : (p : X → Bool) (y : X) (ys : List X) → p y ≡ false → ((k : ℕ) (x : X) → slice_get ys k ≡ Some x → p x ≡ false) → (k : ℕ) (x : X) → slice_get (y ∷ ys) k ≡ Some x → p x ≡ false
  none_more p y ys f h zero x g = ap p (sym (same_Some y x g)) ∙ f
  none_more p y ys f h (suc k) x g = h k x g

  top_later : (p : X → Bool) (w : X → ℕ) (y : X) (ys : List X) (n : ℕ) → p y ≡ false → Top p w ys n → Top p w (y ∷ ys) n
  top_later p w y ys n f (inl a) = inl (none_more p y ys f a.0, a.1)
  top_later p w y ys n f (inr a) = inr (suc a.0, a.1, a.2, a.3, a.4)

  top_here : (p : X → Bool) (w : X → ℕ) (y : X) (ys : List X) (n : ℕ) → p y ≡ true → Top p w ys n → Top p w (y ∷ ys) (max (w y) n)
  top_here p w y ys n t (inl a) = inr (0, y, refl, t, omega (arith, a.1))
  top_here p w y ys n t (inr a) = elim (cases_lt n (w y)) [
    | inl l ↦ inr (0, y, refl, t, omega (arith, l))
    | inr l ↦ inr (suc a.0, a.1, a.2, a.3, omega (arith, l, a.4))
  ]

  -- and one has it, where one passes
  top_of : (p : X → Bool) (w : X → ℕ) (xs : List X) → Top p w xs (greatest p w xs)
  top_of p w [] = inl (λ k x g. absurd (none-some x g), refl)
  top_of p w (y ∷ ys) = elim (cases_Bool (p y)) [
    | inl t ↦ subst (Top p w (y ∷ ys)) (sym (greatest_yes p w y ys t)) (top_here p w y ys (greatest p w ys) t (top_of p w ys))
    | inr f ↦ subst (Top p w (y ∷ ys)) (sym (greatest_no p w y ys f)) (top_later p w y ys (greatest p w ys) f (top_of p w ys))
  ]

  attained : (p : X → Bool) (w : X → ℕ) (xs : List X) (k : ℕ) (x : X) → slice_get xs k ≡ Some x → p x ≡ true → (j : ℕ) × (y : X) × (slice_get xs j ≡ Some y) × (p y ≡ true) × (w y ≡ greatest p w xs)
  attained p w xs k x g t = elim (top_of p w xs) [ inl a ↦ absurd (both_ways (p x) (a.0 k x g) t) | inr a ↦ a ]

  pub none_passes : (p : X → Bool) (w : X → ℕ) (xs : List X) (k : ℕ) (x : X) → first_greatest p w xs ≡ None → slice_get xs k ≡ Some x → p x ≡ false
  none_passes p w xs k x e g = elim (cases_Bool (p x)) [
    | inl t ↦ absurd (let a = attained p w xs k x g t in both_ways (p a.1 && eqb (w a.1) (greatest p w xs)) (no_place (λ y. p y && eqb (w y) (greatest p w xs)) xs a.0 a.1 e a.2) (and_from (p a.1) (eqb (w a.1) (greatest p w xs)) a.3 (eq-eqb (w a.1) (greatest p w xs) a.4)))
    | inr f ↦ f
  ]

  -- the first of greatest weight
  pub at_first : (p : X → Bool) (w : X → ℕ) (xs : List X) (i : ℕ) → first_greatest p w xs ≡ Some i → (x : X) × (slice_get xs i ≡ Some x) × (p x ≡ true) × (w x ≡ greatest p w xs)
  at_first p w xs i e = let a = at_place (λ y. p y && eqb (w y) (greatest p w xs)) xs i e in let b = and_parts (p a.0) (eqb (w a.0) (greatest p w xs)) a.2 in (a.0, a.1, b.0, eqb-true (w a.0) (greatest p w xs) b.1)

  -- what passes weighs no more, and one before it weighs less
  pub first_is : (p : X → Bool) (w : X → ℕ) (xs : List X) (i : ℕ) (x : X) → first_greatest p w xs ≡ Some i → slice_get xs i ≡ Some x → (k : ℕ) (y : X) → slice_get xs k ≡ Some y → p y ≡ true → (w y ≤ w x) × (w y ≡ w x → i ≤ k)
  first_is p w xs i x e g k y h t = let a = at_first p w xs i e in let s : a.0 ≡ x = same_Some a.0 x (sym a.1 ∙ g) in let top : w x ≡ greatest p w xs = ap w (sym s) ∙ a.3 in let m = at_most p w xs k y h t in (
    omega arith,
    λ same. elim (cases_lt k i) [
      | inl below ↦ absurd (both_ways (p y && eqb (w y) (greatest p w xs)) (before_place (λ z. p z && eqb (w z) (greatest p w xs)) xs i k y e below h) (and_from (p y) (eqb (w y) (greatest p w xs)) t (eq-eqb (w y) (greatest p w xs) (same ∙ top))))
      | inr l ↦ l
    ],
  )

  pub set_cases : (xs : List X) (i k : ℕ) (y z : X) → slice_get (slice_set xs i y) k ≡ Some z → ((k ≡ i) × (y ≡ z)) ⊎ (slice_get xs k ≡ Some z)
  set_cases [] i k y z g = absurd (none-some z g)
  set_cases (x ∷ xs) zero zero y z g = inl (refl, same_Some y z g)
  set_cases (x ∷ xs) zero (suc k) y z g = inr g
  set_cases (x ∷ xs) (suc i) zero y z g = inr g
  set_cases (x ∷ xs) (suc i) (suc k) y z g = elim (set_cases xs i k y z g) [ inl a ↦ inl (ap suc a.0, a.1) | inr a ↦ inr a ]

  pub set_same : (xs : List X) (i : ℕ) (x y : X) → slice_get xs i ≡ Some x → slice_get (slice_set xs i y) i ≡ Some y
  set_same [] i x y g = absurd (none-some x g)
  set_same (z ∷ xs) zero x y g = refl
  set_same (z ∷ xs) (suc i) x y g = set_same xs i x y g

  pub push_cases : (xs : List X) (k : ℕ) (y z : X) → slice_get (xs ++ y ∷ []) k ≡ Some z → (slice_get xs k ≡ Some z) ⊎ (y ≡ z)
  push_cases [] zero y z g = inr (same_Some y z g)
  push_cases [] (suc k) y z g = absurd (none-some z g)
  push_cases (x ∷ xs) zero y z g = inl g
  push_cases (x ∷ xs) (suc k) y z g = push_cases xs k y z g

  pub remove_cases : (xs : List X) (i k : ℕ) (z : X) → slice_get (remove xs i) k ≡ Some z → (j : ℕ) × (slice_get xs j ≡ Some z)
  remove_cases [] zero k z g = absurd (none-some z g)
  remove_cases [] (suc i) k z g = absurd (none-some z g)
  remove_cases (x ∷ xs) zero k z g = (suc k, g)
  remove_cases (x ∷ xs) (suc i) zero z g = (0, g)
  remove_cases (x ∷ xs) (suc i) (suc k) z g = let h = remove_cases xs i k z g in (suc h.0, h.1)

  pub set_other : (xs : List X) (i k : ℕ) (y : X) → (k ≡ i → ⊥) → slice_get (slice_set xs i y) k ≡ slice_get xs k
  set_other [] i k y d = refl
  set_other (x ∷ xs) zero zero y d = absurd (d refl)
  set_other (x ∷ xs) zero (suc k) y d = refl
  set_other (x ∷ xs) (suc i) zero y d = refl
  set_other (x ∷ xs) (suc i) (suc k) y d = set_other xs i k y (λ e. d (ap suc e))
