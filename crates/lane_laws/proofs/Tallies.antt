-- Sums over the numbers below a bound.
use Rattle.std.proofs.Common.{◌≡◌, ℕ, ◌+◌, ◌*◌, ◌<◌, ◌≤◌, suc, zero, inl, inr, sym, refl, subst, arith}
use Rattle.std.proofs.lemmas.Bool.{cases_eq}
use Rattle.std.proofs.Math.Nat.{suc-mul, zero-mul}

abbrev pub sum_below : (ℕ → ℕ) → ℕ → ℕ
sum_below f zero = 0
sum_below f (suc n) = f n + sum_below f n

pub below_le : (f g : ℕ → ℕ) (n : ℕ) → ((i : ℕ) → i < n → f i ≤ g i) → sum_below f n ≤ sum_below g n
below_le f g zero h = omega arith
below_le f g (suc n) h = let a = h n (omega arith) in let b = below_le f g n (λ i l. h i (omega arith)) in omega arith

lower : (i n : ℕ) → i < suc n → (i ≡ n → ⊥) → i < n
lower i n l d = omega arith

-- one of them has more
pub below_more : (f g : ℕ → ℕ) (n i d : ℕ) → ((j : ℕ) → j < n → f j ≤ g j) → i < n → f i + d ≤ g i → sum_below f n + d ≤ sum_below g n
below_more f g zero i d h l m = absurd (omega arith)
below_more f g (suc n) i d h l m = elim (cases_eq i n) [
  | inl e ↦ (let b = below_le f g n (λ j k. h j (omega arith)) in let c : f n + d ≤ g n = subst (λ (x : ℕ). f x + d ≤ g x) e m in omega arith)
  | inr x ↦ (let a = h n (omega arith) in let b = below_more f g n i d (λ j k. h j (omega arith)) (lower i n l x) m in omega arith)
]

pub all_slots : (p n : ℕ) → sum_below (λ i. 2 * p + 1) n ≡ 2 * (n * p) + n
all_slots p zero = omega (arith, zero-mul p)
all_slots p (suc n) = let a = all_slots p n in let b = suc-mul n p in omega arith

pub all_ones : (n : ℕ) → sum_below (λ i. 1) n ≡ n
all_ones zero = refl
all_ones (suc n) = let a = all_ones n in omega arith

pub all_pairs : (p n : ℕ) → sum_below (λ i. sum_below (λ k. 1) p) n ≡ n * p
all_pairs p zero = sym (zero-mul p)
all_pairs p (suc n) = let a = all_pairs p n in let b = all_ones p in let c = suc-mul n p in omega arith
