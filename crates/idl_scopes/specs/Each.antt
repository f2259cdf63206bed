-- Numbers of which each is there once.
use Rattle.std.specs.Prelude.{◌≡◌, ◌≤◌, ℕ, ◌==◌, Bool, true, List, [], ◌∷◌, ◌++◌, if◌then◌else◌}
use Rattle.std.specs.List.{list_any}

-- a number is among these
abbrev pub has : List ℕ → ℕ → Bool
has xs x = list_any (λ y. x == y) xs

-- a number after others, unless it is among them
abbrev pub and_new : List ℕ → ℕ → List ℕ
and_new xs x = if has xs x then xs else xs ++ x ∷ []

-- several, one after the other
abbrev pub and_each : List ℕ → List ℕ → List ℕ
and_each xs [] = xs
and_each xs (y ∷ ys) = and_each (and_new xs y) ys

-- each is there once
abbrev pub IsOnce : List ℕ → Type 0
IsOnce xs = and_each [] xs ≡ xs

-- none is below the one or above the other
abbrev pub IsWithin : ℕ → ℕ → List ℕ → Type 0
IsWithin least most xs = (n : ℕ) → has xs n ≡ true → (least ≤ n) × (n ≤ most)
