-- A test of each number below another.
use Rattle.std.proofs.Common.{◌≡◌, ℕ, zero, suc, ◌+◌, ◌<◌, ◌≤◌, Bool, true, false, ◌&&◌, inl, inr, ◌⊎◌, refl, sym, ap, ◌∙◌, subst, arith, add-one}
use Rattle.std.proofs.lemmas.Bool.{and_left, and_right, and_from, cases_eq}
use Rattle.lane_machine.specs.Readiness.{all_below}

-- there is none below 0
pub none_below : (passes : ℕ → Bool) → all_below passes 0 ≡ true
none_below passes = refl

-- one more passes
pub one_more : (passes : ℕ → Bool) (n : ℕ) → passes n ≡ true → all_below passes n ≡ true → all_below passes (n + 1) ≡ true
one_more passes n this others = ap (all_below passes) (add-one n) ∙ and_from (passes n) (all_below passes n) this others

-- one that does not pass is enough
pub one_stays : (passes : ℕ → Bool) (k n : ℕ) → k < n → passes k ≡ false → all_below passes n ≡ false
one_stays passes k zero below fails = absurd (omega arith)
one_stays passes k (suc n) below fails = elim (cases_eq k n) [
  | inl same ↦ and_left (passes n) (all_below passes n) (ap passes (sym same) ∙ fails)
  | inr other ↦ and_right (passes n) (all_below passes n) (one_stays passes k n (omega (arith, other)) fails)
]
