-- The parts of a line, which one byte parts, and the numbers that they are: decimal, without a zero in front. Own profile.
use Rattle.std.specs.Prelude.{ℕ, ◌==◌, ◌&&◌, ◌||◌, not, nat_lt, nat_le, Bool, if◌then◌else◌, List, length, slice_index}
use Rattle.std.specs.Prelude.{Option, Some, None, option_map}
use Rattle.std.specs.Char.{is_ascii_digit}
use Rattle.std.specs.List.{list_all, slice_split}
use Rattle.std.specs.Str.Parse.{digits_value}
use Rattle.trace_reading.specs.declared.words.TheConstants.{MAX_PARTS}

-- a byte of this value
abbrev pub is_byte : ℕ → ℕ → Bool
is_byte by b = b == by

-- the parts of a text between bytes of this value, where they are no more than any line has
abbrev pub parts_in : ℕ → List ℕ → Option (List (List ℕ))
parts_in by text = if nat_le (length (slice_split (is_byte by) text)) MAX_PARTS then Some (slice_split (is_byte by) text) else None

-- digits, of which this is the first, and which are so many, have no zero in front
abbrev pub is_plain : ℕ → ℕ → Bool
is_plain first len = nat_lt 0 len && (not (first == 48) || (len == 1))

-- the digits of a number, without a zero in front
abbrev pub is_numeral : List ℕ → Bool
is_numeral word = is_plain (slice_index word 0) (length word) && list_all is_ascii_digit word

-- the number of a word, where it is below this bound
unfoldable pub number_in : ℕ → List ℕ → Option ℕ
number_in below word = if is_numeral word && nat_lt (digits_value 10 word) below then Some (digits_value 10 word) else None

-- a truth value, 0 or 1
abbrev pub flag_in : List ℕ → Option Bool
flag_in word = option_map (λ n. n == 1) (number_in 2 word)
