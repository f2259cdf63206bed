-- The numbers of the seats of one cell: 0, and the heirs of the numbers made, below their splits.
use Rattle.std.specs.Prelude.{◌≡◌, ◌≢◌, ℕ, ◌<◌, ◌⊎◌, List, [], ◌∷◌, Option, Some}

-- a fact holds of each item
abbrev pub Each : {A : Type 0} → (A → Type 0) → List A → Type 0
Each P [] = Unit {0}
Each P (x ∷ xs) = P x × Each P xs

-- a number that was made, where `splits_of` says how many seats were split from each
pub data Made (heir : ℕ → ℕ → Option ℕ) (splits_of : ℕ → ℕ) : ℕ → Type 0 where
  first : Made heir splits_of 0
  next : (n k m : ℕ) → Made heir splits_of n → k < splits_of n → heir n k ≡ Some m → Made heir splits_of m

-- the number is in a list of numbers, each beside its splits
abbrev pub Has : ℕ → List (ℕ × ℕ) → Type 0
Has n [] = ⊥
Has n (p ∷ ps) = (p.0 ≡ n) ⊎ Has n ps

-- the list has 0 and each heir of what it has
abbrev pub IsWhole : (ℕ → ℕ → Option ℕ) → List (ℕ × ℕ) → Type 0
IsWhole heir ps = Has 0 ps × Each (λ p. (k : ℕ) → k < p.1 → (m : ℕ) → heir p.0 k ≡ Some m → Has m ps) ps

-- no two pairs have one heir
abbrev pub Injects : (ℕ → ℕ → Option ℕ) → Type 0
Injects heir = (n k m j p : ℕ) → heir n k ≡ Some p → heir m j ≡ Some p → (n ≡ m) × (k ≡ j)

-- 0 is no heir
abbrev pub NotFirst : (ℕ → ℕ → Option ℕ) → Type 0
NotFirst heir = (n k : ℕ) → heir n k ≢ Some 0
