-- Laws of maps.
use Rattle.std.specs.Prelude.{◌≡◌, ◌≤◌, ◌<◌, ◌^◌, ◌≤ℤ◌, ℕ, ℤ, pos, Some}
use Rattle.priority_maps.specs.Linear.{LinearMap, linear_native, natives, corbas}
use Rattle.priority_maps.specs.Maps.{PriorityMap, to_native}

-- neither the band nor the range has its ends reversed
pub record IsOrdered (m : LinearMap) : Type 0 where
  pub corba : m.low ≤ m.high
  pub native : m.native_low ≤ℤ m.native_high

-- a greater CORBA priority has no lesser native one
abbrev pub KeepsOrder : LinearMap → Type 0
KeepsOrder m = (p q : ℕ) (a b : ℤ) → p ≤ q → linear_native m p ≡ Some a → linear_native m q ≡ Some b → a ≤ℤ b

-- the low end goes to the low end; the high end goes to the high end, unless there are more natives than CORBA
-- priorities; and every native priority lies in the range
pub record KeepsEnds (m : LinearMap) : Type 0 where
  pub low : linear_native m m.low ≡ Some m.native_low
  pub high : natives m ≤ corbas m → linear_native m m.high ≡ Some m.native_high
  pub within : (p : ℕ) (n : ℤ) → linear_native m p ≡ Some n → (m.native_low ≤ℤ n) × (n ≤ℤ m.native_high)

-- the priority that a native one goes back to is no greater than the one it came from, and has the same native one
abbrev pub GoesBack : PriorityMap → ℕ → ℕ → Type 0
GoesBack m p q = (q ≤ p) × (to_native m q ≡ to_native m p)

-- each CORBA priority has itself as its native one
abbrev pub IsIdentity : PriorityMap → Type 0
IsIdentity m = (p : ℕ) → p < 2 ^ 15 → to_native m p ≡ Some (pos p)
