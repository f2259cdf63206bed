-- Marks on numbers as bits of words of 64.
use Rattle.std.specs.Prelude.{ℕ, ◌/◌, ◌%◌, ◌==◌, Bool, List}
use Rattle.std.specs.List.{slice_index_or}
use Rattle.std.specs.Int.{bit_at}

-- whether a number's bit is set
abbrev pub is_marked : List ℕ → ℕ → Bool
is_marked words n = bit_at (slice_index_or words (n / 64) 0) (n % 64) == 1
