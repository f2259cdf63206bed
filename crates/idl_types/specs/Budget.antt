-- What is left of a number.
use Rattle.std.specs.Prelude.{ℕ, ◌-◌, nat_le, Option, Some, None, if◌then◌else◌}

-- what is left of a number when another is taken off; None where that is greater
abbrev pub left : ℕ → ℕ → Option ℕ
left budget n = if nat_le n budget then Some (budget - n) else None
