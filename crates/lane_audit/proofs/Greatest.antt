-- The greatest weight of a list, one element after another.
use Rattle.std.proofs.Common.{◌≡◌, ℕ, ◌+◌, ◌<◌, ◌≤◌, Bool, true, false, List, [], ◌∷◌, ◌++◌, length, take, get_or, inl, inr, sym, ap, ◌∙◌, arith}
use Rattle.std.specs.Prelude.{max, if◌then◌else◌}
use Rattle.std.proofs.lemmas.List.{take_more, take_all}
use Rattle.std.proofs.lemmas.Bool.{cases_Bool}
use Rattle.thread_borrowing.specs.Choice.{greatest}

module _ {X : Type 0} (p : X → Bool) (w : X → ℕ) where
  with_one : (xs : List X) (x : X) → p x ≡ true → greatest p w (xs ++ x ∷ []) ≡ max (greatest p w xs) (w x)
  with_one [] x t = ap (λ (b : Bool). if b then max (w x) 0 else 0) t ∙ omega arith
  with_one (y ∷ ys) x t = let ih = with_one ys x t in elim (p y) as (λ (b : Bool). (if b then max (w y) (greatest p w (ys ++ x ∷ [])) else greatest p w (ys ++ x ∷ [])) ≡ max (if b then max (w y) (greatest p w ys) else greatest p w ys) (w x))
      [ true ↦ omega arith | false ↦ ih ]

  without_one : (xs : List X) (x : X) → p x ≡ false → greatest p w (xs ++ x ∷ []) ≡ greatest p w xs
  without_one [] x f = ap (λ (b : Bool). if b then max (w x) 0 else 0) f
  without_one (y ∷ ys) x f = let ih = without_one ys x f in elim (p y) as (λ (b : Bool). (if b then max (w y) (greatest p w (ys ++ x ∷ [])) else greatest p w (ys ++ x ∷ [])) ≡ (if b then max (w y) (greatest p w ys) else greatest p w ys))
      [ true ↦ ap (max (w y)) ih | false ↦ ih ]

  one_longer : (xs : List X) (i : ℕ) (x : X) → i < length xs → x ≡ get_or xs i x → greatest p w (take (i + 1) xs) ≡ greatest p w (take i xs ++ x ∷ [])
  one_longer xs i x within here = ap (greatest p w) (take_more xs i x within ∙ ap (λ (z : X). take i xs ++ z ∷ []) (sym here))

  one_passes : (xs : List X) (i : ℕ) (x : X) (most : ℕ) → most ≡ greatest p w (take i xs) → i < length xs → x ≡ get_or xs i x → p x ≡ true → max most (w x) ≡ greatest p w (take (i + 1) xs)
  one_passes xs i x most so within here t = ap (λ (n : ℕ). max n (w x)) so ∙ sym (one_longer xs i x within here ∙ with_one (take i xs) x t)

  one_fails : (xs : List X) (i : ℕ) (x : X) (most : ℕ) → most ≡ greatest p w (take i xs) → i < length xs → x ≡ get_or xs i x → p x ≡ false → most ≡ greatest p w (take (i + 1) xs)
  one_fails xs i x most so within here f = so ∙ sym (one_longer xs i x within here ∙ without_one (take i xs) x f)

  -- one more, which counts where it passes
  pub one_more : (xs : List X) (i : ℕ) (x : X) (most most' : ℕ) → most ≡ greatest p w (take i xs) → i < length xs → x ≡ get_or xs i x → most' ≡ (if p x then max most (w x) else most) → most' ≡ greatest p w (take (i + 1) xs)
  one_more xs i x most most' so within here next = elim (cases_Bool (p x)) [
    | inl t ↦ next ∙ ap (λ (b : Bool). if b then max most (w x) else most) t ∙ one_passes xs i x most so within here t
    | inr f ↦ next ∙ ap (λ (b : Bool). if b then max most (w x) else most) f ∙ one_fails xs i x most so within here f
  ]

  -- all of them
  pub all_seen : (xs : List X) (i : ℕ) (most : ℕ) → most ≡ greatest p w (take i xs) → length xs ≤ i → most ≡ greatest p w xs
  all_seen xs i most so past = so ∙ ap (greatest p w) (take_all i xs past)
