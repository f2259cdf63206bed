-- The bases of an interface are interfaces that were declared before it.
use Rattle.std.proofs.Common.{◌≡◌, ℕ, ◌<◌, List, [], ◌∷◌, Some}
use Rattle.std.specs.Prelude.{slice_get}
use Rattle.idl_names.specs.State.{Thing, interface}

-- an interface is there
pub record IsBase (ts : List Thing) (i : ℕ) : Type 0 where
  pub bases : List ℕ
  pub operations : List ℕ
  pub there : slice_get ts i ≡ Some (interface bases operations)

-- at all of these places
abbrev pub AreBases : List Thing → List ℕ → Type 0
AreBases ts [] = Unit {0}
AreBases ts (i ∷ is) = IsBase ts i × AreBases ts is

-- and each is before this place
abbrev pub AreEarlier : List ℕ → ℕ → Type 0
AreEarlier [] n = Unit {0}
AreEarlier (i ∷ is) n = (i < n) × AreEarlier is n

-- so of the bases of each interface
abbrev pub AreBased : List Thing → Type 0
AreBased ts = (i : ℕ) (bases os : List ℕ) → slice_get ts i ≡ Some (interface bases os) → AreBases ts bases × AreEarlier bases i
