-- Lemmas on links in memory.
use Rattle.std.proofs.Common.{◌≡◌, ℕ, zero, suc, ◌-◌, ◌<◌, List, ◌∷◌, take, refl, arith}

-- the first of at most so many
pub first_link : {A : Type 0} (most : ℕ) (x : A) (xs : List A) → 0 < most → take most (x ∷ xs) ≡ x ∷ take (most - 1) xs
first_link zero x xs some = absurd (omega arith)
first_link (suc n) x xs some = let e : suc n - 1 ≡ n = omega arith in rw e refl
