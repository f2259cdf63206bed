-- The least CORBA priority that has a native one.
use Rattle.std.specs.Prelude.{◌≡◌, ℕ, ℤ, ◌≤◌, ◌<◌, Option, Some, MatchOption}
use Rattle.priority_maps.specs.Linear.{share}

-- no CORBA priority has this native one
abbrev pub HasNone : (ℕ → Option ℤ) → ℤ → Type 0
HasNone to_native n = (q : ℕ) → to_native q ≡ Some n → ⊥

-- this is the least CORBA priority that has this native one
pub record IsLeast (to_native : ℕ → Option ℤ) (n : ℤ) (p : ℕ) : Type 0 where
  pub has : to_native p ≡ Some n
  pub least : (q : ℕ) → to_native q ≡ Some n → p ≤ q

-- the least one is found, and none only where there is none
abbrev pub FindsLeast : (ℕ → Option ℤ) → ℤ → Option ℕ → Type 0
FindsLeast to_native n found = MatchOption found (HasNone to_native n) (IsLeast to_native n)

-- the first of c places whose share of n is o is found, and none only where there is none
abbrev pub FindsPlace : ℕ → ℕ → ℕ → Option ℕ → Type 0
FindsPlace n c o found =
    MatchOption found ((k : ℕ) → k < c → share n c k ≡ o → ⊥)
    (λ k. (k < c) × (share n c k ≡ o) × ((j : ℕ) → j < c → share n c j ≡ o → k ≤ j))
