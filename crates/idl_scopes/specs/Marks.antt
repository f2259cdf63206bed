-- Numbers that are marked.
use Rattle.std.specs.Prelude.{ℕ, Bool, false, List, Option, Some, None, slice_get}

-- a mark that is there
abbrev pub mark_of : Option Bool → Bool
mark_of None = false
mark_of (Some b) = b

-- a number is marked
abbrev pub is_marked : List Bool → ℕ → Bool
is_marked marks n = mark_of (slice_get marks n)
