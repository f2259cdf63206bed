-- Literals: CORBA 3.0.3, section 3.2.5.
use Rattle.std.specs.Prelude.{ℕ, ◌+◌, ◌-◌, ◌*◌, nat_lt, nat_eq, List, [], ◌∷◌, length, take, drop, if◌then◌else◌}
use Rattle.idl_constants.specs.declared.literal.Base.{Base}
use Rattle.idl_constants.specs.declared.literal.Base.TheVariants.{Eight, Ten, Sixteen}

-- the base of a number
abbrev pub base_of : Base → ℕ
base_of Eight = 8
base_of Ten = 10
base_of Sixteen = 16

-- what a digit stands for: from `0`, and for 10 on from `A` or `a`
abbrev pub digit : ℕ → ℕ
digit c = if nat_lt c 58 then c - 48 else (if nat_lt c 91 then c - 55 else c - 87)

-- the number that further digits make of a number
abbrev pub number_behind : ℕ → ℕ → List ℕ → ℕ
number_behind base n [] = n
number_behind base n (c ∷ cs) = number_behind base (n * base + digit c) cs

-- the number that digits spell
abbrev pub number : ℕ → List ℕ → ℕ
number base cs = number_behind base 0 cs

-- the number that a literal spells: hexadecimal after `0x`, octal after another 0, and else decimal
abbrev pub behind_0 : List ℕ → ℕ
behind_0 [] = 0
behind_0 (c ∷ cs) = if nat_eq c 120 then number 16 cs else number 8 (c ∷ cs)

-- the number of an integer literal, and 0 of no text
abbrev pub integer_of : List ℕ → ℕ
integer_of [] = 0
integer_of (c ∷ cs) = if nat_eq c 48 then behind_0 cs else number 10 (c ∷ cs)
