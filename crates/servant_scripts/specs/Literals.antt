-- Literals of scripts: own profile.
use Rattle.std.specs.Prelude.{ℕ, ℤ, pos, ◌+◌, ◌-◌, ◌*◌, ◌^◌, ◌==◌, ◌&&◌, ◌||◌, not, nat_lt, Bool, false, List, [], ◌∷◌, length, take, drop, Option, Some, None, if◌then◌else◌}

-- the number that further digits make of a number
abbrev pub number_behind : ℕ → List ℕ → ℕ
number_behind n [] = n
number_behind n (c ∷ cs) = number_behind (n * 10 + (c - 48)) cs

-- the number that digits spell
abbrev pub number : List ℕ → ℕ
number cs = number_behind 0 cs

-- a number that is decimal: no 0 is before other bytes
abbrev pub is_decimal : List ℕ → Bool
is_decimal [] = false
is_decimal (c ∷ cs) = not (c == 48) || (length cs == 0)

-- the number of an integer literal that is decimal and below 2^127
abbrev pub literal_of : List ℕ → Option ℤ
literal_of cs = if is_decimal cs && nat_lt (number cs) (2 ^ 127) then Some (pos (number cs)) else None
