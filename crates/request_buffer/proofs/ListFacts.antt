-- Lists with an item in the middle.
use Rattle.std.proofs.Common.{◌≡◌, ℕ, zero, suc, ◌<◌, ◌≤◌, Bool, true, false, List, [], ◌∷◌, ◌++◌, length, map, take, drop, Option, Some, None, inl, inr, ◌⊎◌, refl, sym, ap, ◌∙◌, arith}
use Rattle.std.specs.Prelude.{slice_get, position}
use Rattle.std.specs.List.{insert, remove}
use Rattle.std.proofs.lemmas.Bool.{both_ways, cases_lt}
use Rattle.std.proofs.lemmas.Option.{none-some, same_Some}
use Rattle.thread_borrowing.specs.Choice.{first_greatest}
use Rattle.thread_borrowing.proofs.Places.{at_place, before_place, no_place, at_first, first_is, none_passes}

module _ {X : Type 0} where
  -- two lists that make none are none
  pub both_none : (xs ys : List X) → xs ++ ys ≡ [] → (xs ≡ []) × (ys ≡ [])
  both_none [] ys e = (refl, e)
  both_none (x ∷ xs) ys e = absurd (let l = ap length e in omega arith)

  pub none_of_length : (xs : List X) → length xs ≤ 0 → xs ≡ []
  none_of_length [] l = refl
  none_of_length (x ∷ xs) l = absurd (omega arith)

  -- the item in the middle
  pub middle : (xs : List X) (x : X) (ys : List X) → slice_get (xs ++ x ∷ ys) (length xs) ≡ Some x
  middle [] x ys = refl
  middle (z ∷ xs) x ys = middle xs x ys

  -- what is before it
  pub of_earlier : (xs ys : List X) (k : ℕ) (y : X) → k < length xs → slice_get (xs ++ ys) k ≡ Some y → slice_get xs k ≡ Some y
  of_earlier [] ys k y below g = absurd (omega arith)
  of_earlier (x ∷ xs) ys zero y below g = g
  of_earlier (x ∷ xs) ys (suc k) y below g = of_earlier xs ys k y (omega arith) g

  pub remove_middle : (xs : List X) (x : X) (ys : List X) → remove (xs ++ x ∷ ys) (length xs) ≡ xs ++ ys
  remove_middle [] x ys = refl
  remove_middle (z ∷ xs) x ys = ap (λ zs. z ∷ zs) (remove_middle xs x ys)

  -- a list around one of its items
  pub around : (xs : List X) (at : ℕ) (x : X) → slice_get xs at ≡ Some x → xs ≡ take at xs ++ x ∷ drop (suc at) xs
  around [] at x g = absurd (none-some x g)
  around (y ∷ xs) zero x g = ap (λ z. z ∷ xs) (same_Some y x g)
  around (y ∷ xs) (suc at) x g = ap (λ zs. y ∷ zs) (around xs at x g)

  -- with an item more, an item is that one or one of the others
  pub one_more : (xs : List X) (x : X) (ys : List X) (k : ℕ) (y : X) → slice_get (xs ++ x ∷ ys) k ≡ Some y → (x ≡ y) ⊎ ((j : ℕ) × (slice_get (xs ++ ys) j ≡ Some y))
  one_more [] x ys zero y g = inl (same_Some x y g)
  one_more [] x ys (suc k) y g = inr (k, g)
  one_more (z ∷ xs) x ys zero y g = inr (0, g)
  one_more (z ∷ xs) x ys (suc k) y g = elim (one_more xs x ys k y g) [ inl is ↦ inl is | inr other ↦ inr (suc other.0, other.1) ]

  -- the others are still there
  pub still : (xs : List X) (x : X) (ys : List X) (k : ℕ) (y : X) → slice_get (xs ++ ys) k ≡ Some y → (j : ℕ) × (slice_get (xs ++ x ∷ ys) j ≡ Some y)
  still [] x ys k y g = (suc k, g)
  still (z ∷ xs) x ys zero y g = (0, g)
  still (z ∷ xs) x ys (suc k) y g = let j = still xs x ys k y g in (suc j.0, j.1)

  -- an item of two lists is one of the first or of the second
  pub of_either : (xs ys : List X) (k : ℕ) (y : X) → slice_get (xs ++ ys) k ≡ Some y → (slice_get xs k ≡ Some y) ⊎ ((j : ℕ) × (slice_get ys j ≡ Some y))
  of_either [] ys k y g = inr (k, g)
  of_either (x ∷ xs) ys zero y g = inl g
  of_either (x ∷ xs) ys (suc k) y g = of_either xs ys k y g

  pub of_first : (xs ys : List X) (k : ℕ) (y : X) → slice_get xs k ≡ Some y → slice_get (xs ++ ys) k ≡ Some y
  of_first [] ys k y g = absurd (none-some y g)
  of_first (x ∷ xs) ys zero y g = g
  of_first (x ∷ xs) ys (suc k) y g = of_first xs ys k y g

  pub of_second : (xs ys : List X) (k : ℕ) (y : X) → slice_get ys k ≡ Some y → (j : ℕ) × (slice_get (xs ++ ys) j ≡ Some y)
  of_second [] ys k y g = (k, g)
  of_second (x ∷ xs) ys k y g = let j = of_second xs ys k y g in (suc j.0, j.1)

  -- where an item went into a list
  pub inserted : (xs : List X) (at k : ℕ) (x y : X) → at ≤ length xs → slice_get (insert xs at x) k ≡ Some y
      → ((k ≡ at) × (x ≡ y)) ⊎ ((j : ℕ) × (slice_get xs j ≡ Some y) × (((k < at) × (j ≡ k)) ⊎ ((at < k) × (suc j ≡ k))))
  inserted xs zero zero x y within g = inl (refl, same_Some x y g)
  inserted xs zero (suc k) x y within g = inr (k, g, inr (omega arith, refl))
  inserted [] (suc at) k x y within g = absurd (omega arith)
  inserted (z ∷ xs) (suc at) zero x y within g = inr (0, g, inl (omega arith, refl))
  inserted (z ∷ xs) (suc at) (suc k) x y within g = elim (inserted xs at k x y (omega arith) g) [
    | inl here ↦ inl (ap suc here.0, here.1)
    | inr (j, s, inl before) ↦ inr (suc j, s, inl (let b = before.0 in omega arith, ap suc before.1))
    | inr (j, s, inr after) ↦ inr (suc j, s, inr (let b = after.0 in omega arith, ap suc after.1))
  ]

  -- what is left where an item was taken out was at its place or one later
  pub left_at : (xs : List X) (at k : ℕ) (y : X) → slice_get (remove xs at) k ≡ Some y
      → (j : ℕ) × (slice_get xs j ≡ Some y) × (((k < at) × (j ≡ k)) ⊎ ((at ≤ k) × (j ≡ suc k)))
  left_at [] zero k y g = absurd (none-some y g)
  left_at [] (suc at) k y g = absurd (none-some y g)
  left_at (x ∷ xs) zero k y g = (suc k, g, inr (omega arith, refl))
  left_at (x ∷ xs) (suc at) zero y g = (0, g, inl (omega arith, refl))
  left_at (x ∷ xs) (suc at) (suc k) y g =
      let h = left_at xs at k y g in (
        suc h.0,
        h.1,
        elim h.2 [
          | inl before ↦ inl (let b = before.0 in omega arith, ap suc before.1)
          | inr after ↦ inr (let b = after.0 in omega arith, ap suc after.1)
        ],
      )

  -- the first that passes
  pub first_here : (p : X → Bool) (xs : List X) (at : ℕ) (x : X) → slice_get xs at ≡ Some x → p x ≡ true
      → ((k : ℕ) (y : X) → slice_get xs k ≡ Some y → p y ≡ true → at ≤ k) → position p xs ≡ Some at
  first_here p xs at x g fits first = of_case (position p xs) refl where
    of_case : (o : Option ℕ) → position p xs ≡ o → position p xs ≡ Some at
    of_case None e = absurd (both_ways (p x) (no_place p xs at x e g) fits)
    of_case (Some i) e =
        let found = at_place p xs i e in
        let no_earlier = first i found.0 found.1 found.2 in
        elim (cases_lt at i) [
          | inl below ↦ absurd (both_ways (p x) (before_place p xs i at x e below g) fits)
          | inr above ↦ (let same : i ≡ at = omega arith in e ∙ ap Some same)
        ]

  -- the first of greatest weight
  pub greatest_here : (p : X → Bool) (w : X → ℕ) (xs : List X) (at : ℕ) (x : X) → slice_get xs at ≡ Some x → p x ≡ true
      → ((k : ℕ) (y : X) → slice_get xs k ≡ Some y → p y ≡ true → (w y ≤ w x) × (w y ≡ w x → at ≤ k)) → first_greatest p w xs ≡ Some at
  greatest_here p w xs at x g fits best = of_case (first_greatest p w xs) refl where
    of_case : (o : Option ℕ) → first_greatest p w xs ≡ o → first_greatest p w xs ≡ Some at
    of_case None e = absurd (both_ways (p x) (none_passes p w xs at x e g) fits)
    of_case (Some i) e =
        let found = at_first p w xs i e in
        let no_better = best i found.0 found.1 found.2 in
        let first = first_is p w xs i found.0 e found.1 at x g fits in
        let more = first.0 in
        let less = no_better.0 in
        let same : w found.0 ≡ w x = omega arith in
        let one = first.1 (sym same) in
        let other = no_better.1 same in
        e ∙ ap Some (let z : i ≡ at = omega arith in z)

  -- none of greatest weight where none passes
  pub none_greatest : (p : X → Bool) (w : X → ℕ) (xs : List X) → ((k : ℕ) (y : X) → slice_get xs k ≡ Some y → p y ≡ false) → first_greatest p w xs ≡ None
  none_greatest p w xs none = of_case (first_greatest p w xs) refl where
    of_case : (o : Option ℕ) → first_greatest p w xs ≡ o → first_greatest p w xs ≡ None
    of_case None e = e
    of_case (Some i) e = let found = at_first p w xs i e in absurd (both_ways (p found.0) (none i found.0 found.1) found.2)

  pub none_first : (p : X → Bool) (xs : List X) → ((k : ℕ) (y : X) → slice_get xs k ≡ Some y → p y ≡ false) → position p xs ≡ None
  none_first p xs none = of_case (position p xs) refl where
    of_case : (o : Option ℕ) → position p xs ≡ o → position p xs ≡ None
    of_case None e = e
    of_case (Some i) e = let found = at_place p xs i e in absurd (both_ways (p found.0) (none i found.0 found.1) found.2)

-- what is computed of each
pub of_map : {X Y : Type 0} (f : X → Y) (xs : List X) (k : ℕ) (y : Y) → slice_get (map f xs) k ≡ Some y → (x : X) × (slice_get xs k ≡ Some x) × (f x ≡ y)
of_map f [] k y g = absurd (none-some y g)
of_map f (x ∷ xs) zero y g = (x, refl, same_Some (f x) y g)
of_map f (x ∷ xs) (suc k) y g = of_map f xs k y g

pub on_map : {X Y : Type 0} (f : X → Y) (xs : List X) (k : ℕ) (x : X) → slice_get xs k ≡ Some x → slice_get (map f xs) k ≡ Some (f x)
on_map f [] k x g = absurd (none-some x g)
on_map f (y ∷ xs) zero x g = ap (λ z. Some (f z)) (same_Some y x g)
on_map f (y ∷ xs) (suc k) x g = on_map f xs k x g
