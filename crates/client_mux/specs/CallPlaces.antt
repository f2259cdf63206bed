-- The list of calls, by ids.
use Rattle.std.proofs.Common.{◌≡◌, ℕ, ◌+◌, ◌≤◌, suc, zero, List, [], ◌∷◌, ◌++◌, length, Some, ◌⊎◌, inl, inr, sym, refl, ap, ◌∙◌, subst, arith}
use Rattle.std.specs.Prelude.{slice_get, slice_set}
use Rattle.std.proofs.lemmas.Bool.{cases_eq}
use Rattle.std.proofs.lemmas.Option.{none-some, same_Some, slice_get_within}
use Rattle.std.proofs.lemmas.List.{length-set}
use Rattle.client_mux.specs.declared.called.Called.{Called}
use Rattle.client_mux.specs.Machine.{call_at, set_call}

module _ {X : Type 0} where
  set_same : (xs : List X) (i : ℕ) (x y : X) → slice_get xs i ≡ Some x → slice_get (slice_set xs i y) i ≡ Some y
  set_same [] i x y g = absurd (none-some x g)
  set_same (z ∷ xs) zero x y g = refl
  set_same (z ∷ xs) (suc i) x y g = set_same xs i x y g

  set_other : (xs : List X) (i k : ℕ) (y : X) → (k ≡ i → ⊥) → slice_get (slice_set xs i y) k ≡ slice_get xs k
  set_other [] i k y d = refl
  set_other (x ∷ xs) zero zero y d = absurd (d refl)
  set_other (x ∷ xs) zero (suc k) y d = refl
  set_other (x ∷ xs) (suc i) zero y d = refl
  set_other (x ∷ xs) (suc i) (suc k) y d = set_other xs i k y (λ e. d (ap suc e))

  pub push_cases : (xs : List X) (k : ℕ) (y z : X) → slice_get (xs ++ y ∷ []) k ≡ Some z → (slice_get xs k ≡ Some z) ⊎ ((k ≡ length xs) × (y ≡ z))
  push_cases [] zero y z g = inr (refl, same_Some y z g)
  push_cases [] (suc k) y z g = absurd (none-some z g)
  push_cases (x ∷ xs) zero y z g = inl g
  push_cases (x ∷ xs) (suc k) y z g = elim (push_cases xs k y z g) [ inl a ↦ inl a | inr a ↦ inr (ap suc a.0, a.1) ]

  pub push_old : (xs : List X) (k : ℕ) (y z : X) → slice_get xs k ≡ Some z → slice_get (xs ++ y ∷ []) k ≡ Some z
  push_old [] k y z g = absurd (none-some z g)
  push_old (x ∷ xs) zero y z g = g
  push_old (x ∷ xs) (suc k) y z g = push_old xs k y z g

  pub push_new : (xs : List X) (y : X) → slice_get (xs ++ y ∷ []) (length xs) ≡ Some y
  push_new [] y = refl
  push_new (x ∷ xs) y = push_new xs y

pub call_set : (calls : List Called) (id : ℕ) (c z : Called) → call_at calls id ≡ Some c → call_at (set_call calls id z) id ≡ Some z
call_set calls zero c z g = absurd (none-some c g)
call_set calls (suc k) c z g = set_same calls k c z g

pub call_other : (calls : List Called) (id k : ℕ) (z : Called) → (k ≡ id → ⊥) → call_at (set_call calls id z) k ≡ call_at calls k
call_other calls zero k z d = refl
call_other calls (suc i) zero z d = refl
call_other calls (suc i) (suc k) z d = set_other calls i k z (λ e. d (ap suc e))

pub call_within : (calls : List Called) (id : ℕ) (c : Called) → call_at calls id ≡ Some c → id ≤ length calls
call_within calls zero c g = absurd (none-some c g)
call_within calls (suc k) c g = let a = slice_get_within calls k c g in omega arith

pub length_set : (calls : List Called) (id : ℕ) (z : Called) → length (set_call calls id z) ≡ length calls
length_set calls zero z = refl
length_set calls (suc k) z = length-set calls k z

pub call_cases : (calls : List Called) (id k : ℕ) (c z y : Called) → call_at calls id ≡ Some c → call_at (set_call calls id z) k ≡ Some y → ((k ≡ id) × (z ≡ y)) ⊎ ((k ≡ id → ⊥) × (call_at calls k ≡ Some y))
call_cases calls id k c z y g f = elim (cases_eq k id) [
  | inl same ↦ inl (same, same_Some z y (sym (call_set calls id c z g) ∙ (ap (call_at (set_call calls id z)) (sym same) ∙ f)))
  | inr differs ↦ inr (differs, sym (call_other calls id k z differs) ∙ f)
]

pub call_push : (calls : List Called) (k : ℕ) (z c : Called) → call_at calls k ≡ Some c → call_at (calls ++ z ∷ []) k ≡ Some c
call_push calls zero z c g = absurd (none-some c g)
call_push calls (suc k) z c g = push_old calls k z c g

pub call_new : (calls : List Called) (z : Called) → call_at (calls ++ z ∷ []) (length calls + 1) ≡ Some z
call_new calls z = let s : suc (length calls) ≡ length calls + 1 = omega arith in subst (λ (k : ℕ). call_at (calls ++ z ∷ []) k ≡ Some z) s (push_new calls z)

pub call_pushed : (calls : List Called) (k : ℕ) (z c : Called) → call_at (calls ++ z ∷ []) k ≡ Some c → (call_at calls k ≡ Some c) ⊎ ((k ≡ length calls + 1) × (z ≡ c))
call_pushed calls zero z c g = absurd (none-some c g)
call_pushed calls (suc k) z c g = elim (push_cases calls k z c g) [ inl a ↦ inl a | inr a ↦ inr (let b = a.0 in omega arith, a.1) ]
