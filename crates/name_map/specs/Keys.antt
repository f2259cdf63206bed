-- The order of keys.
use Rattle.std.specs.Prelude.{◌≡◌, ℕ, Bool, true, List}
use Rattle.std.specs.Ordering.{is_lt, nat_cmp}
use Rattle.std.specs.Cmp.Lexicographic.{slice_cmp}

-- whether a key is below another: at the first byte that differs, or as a prefix of it
abbrev pub is_below : List ℕ → List ℕ → Bool
is_below key other = is_lt (slice_cmp nat_cmp key other)

-- a key is below another
abbrev pub Below : List ℕ → List ℕ → Type 0
Below key other = is_below key other ≡ true
