-- Elements of lists to which one was added, or in which one was set.
use Rattle.std.proofs.Common.{◌≡◌, ◌⊎◌, inl, inr, ℕ, zero, suc, arith, List, [], ◌∷◌, ◌++◌, length, set, Some, refl, ap}
use Rattle.std.specs.Prelude.{slice_get}
use Rattle.std.proofs.lemmas.Option.{none-some, same_Some}

pub get_before : {X : Type 0} (xs : List X) (y x : X) (i : ℕ) → slice_get xs i ≡ Some x → slice_get (xs ++ y ∷ []) i ≡ Some x
get_before [] y x i e = absurd (none-some x e)
get_before (z ∷ xs) y x zero e = e
get_before (z ∷ xs) y x (suc i) e = get_before xs y x i e

pub get_last : {X : Type 0} (xs : List X) (y : X) → slice_get (xs ++ y ∷ []) (length xs) ≡ Some y
get_last [] y = refl
get_last (z ∷ xs) y = get_last xs y

pub set_elsewhere : {X : Type 0} (xs : List X) (i j : ℕ) (y : X) → (i ≡ j → ⊥) → slice_get (set xs i y) j ≡ slice_get xs j
set_elsewhere [] i j y h = refl
set_elsewhere (x ∷ xs) zero zero y h = absurd (h refl)
set_elsewhere (x ∷ xs) zero (suc j) y h = refl
set_elsewhere (x ∷ xs) (suc i) zero y h = refl
set_elsewhere (x ∷ xs) (suc i) (suc j) y h = set_elsewhere xs i j y (λ e. h (ap suc e))

pub set_there : {X : Type 0} (xs : List X) (i : ℕ) (y x : X) → slice_get xs i ≡ Some x → slice_get (set xs i y) i ≡ Some y
set_there [] i y x e = absurd (none-some x e)
set_there (z ∷ xs) zero y x e = refl
set_there (z ∷ xs) (suc i) y x e = set_there xs i y x e

-- the one that was set, or one of the others
pub get_set : {X : Type 0} (xs : List X) (i j : ℕ) (y x : X) → slice_get (set xs i y) j ≡ Some x → ((i ≡ j) × (y ≡ x)) ⊎ ((i ≡ j → ⊥) × (slice_get xs j ≡ Some x))
get_set [] i j y x e = absurd (none-some x e)
get_set (z ∷ xs) zero zero y x e = inl (refl, same_Some y x e)
get_set (z ∷ xs) zero (suc j) y x e = inr (λ h. absurd (omega arith), e)
get_set (z ∷ xs) (suc i) zero y x e = inr (λ h. absurd (omega arith), e)
get_set (z ∷ xs) (suc i) (suc j) y x e = elim (get_set xs i j y x e) [ inl p ↦ inl (ap suc p.0, p.1) | inr p ↦ inr (λ h. p.0 (omega arith), p.1) ]
