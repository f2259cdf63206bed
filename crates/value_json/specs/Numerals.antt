-- The JSON of the types whose values are numbers: own profile. An integer and an octet are a number, a boolean is a
-- boolean, a char is a string of one character, and an enumerator is its label.
use Rattle.std.specs.Prelude.{ℕ, ℤ, pos, negsuc, neg_ℤ, ◌^◌, ◌&&◌, int_le, int_lt, nat_lt, Bool, List, [], ◌∷◌, position, if◌then◌else◌, Option, Some, None, option_map, option_and_then, unwrap_or, slice_get}
use Rattle.std.specs.Int.{from_bool}
use Rattle.std.specs.Ordering.{int_eq}
use Rattle.std.specs.Str.{bytes_eq, chars}
use Rattle.serde_json.specs.Data.{Data}
use Rattle.serde_json.specs.Data as json
use Rattle.serde_json.specs.Find.{of_integer, as_bool, as_str, as_number, as_integer}
use Rattle.cdr_values.specs.Trees.{Names, Scalar, boolean, char, unsigned, signed, enumeration, Kind, scalar, words, sequence, array, structure, union}
use Rattle.cdr_values.specs.Spelling.{lowest, limit}
use Rattle.value_json.specs.Texts.{is_byte, where_so, text_of, text_data}

-- ---- a number of a type as JSON; null where the type has no such number

-- whether 64 bits hold a number, with a sign or without
abbrev pub has_64_bits : ℤ → Bool
has_64_bits z = int_le (neg_ℤ (pos (2 ^ 63))) z && int_lt z (pos (2 ^ 64))

-- an integer
abbrev pub integer_data : ℤ → Data
integer_data z = if has_64_bits z then json.number (of_integer z) else json.null

-- a char by its code
abbrev pub letter_data : ℤ → Data
letter_data (pos c) = if is_byte c then text_data (c ∷ []) else json.null
letter_data (negsuc c) = json.null

-- an enumerator by its number
abbrev pub label_data : Names → ℤ → Data
label_data labels (pos n) = if nat_lt n (2 ^ 32) then unwrap_or (option_map text_data (slice_get labels n)) json.null else json.null
label_data labels (negsuc n) = json.null

-- a number of a scalar type
abbrev pub numeral_data : Scalar → ℤ → Data
numeral_data boolean z = json.boolean (int_eq z (pos 1))
numeral_data char z = letter_data z
numeral_data (unsigned s) z = integer_data z
numeral_data (signed s) z = integer_data z
numeral_data (enumeration name labels) z = label_data labels z

-- the same of a type that may be no scalar
abbrev pub number_data : Kind → ℤ → Data
number_data (scalar s) z = numeral_data s z
number_data (words bound) z = json.null
number_data (sequence k bound) z = json.null
number_data (array k n) z = json.null
number_data (structure name ms) z = json.null
number_data (union name d cs) z = json.null

-- ---- the number of a type that JSON means; None where it means none

-- an integer from the lowest one up to a limit: a fraction, an exponent, `-0` and what 64 bits don't hold are floats, and
-- no integers
abbrev pub integer_in : ℤ → ℤ → Data → Option ℤ
integer_in low high d = option_and_then (where_so (λ z. int_le low z && int_lt z high)) (option_and_then as_integer (as_number d))

-- the one character of a text
abbrev pub only : List ℕ → Option ℕ
only (c ∷ []) = Some c
only _ = None

-- the code of a character, where it is that of a byte
abbrev pub as_code : ℕ → Option ℤ
as_code c = if is_byte c then Some (pos c) else None

-- a char
abbrev pub letter_in : Data → Option ℤ
letter_in d = option_and_then as_code (option_and_then (λ s. only (chars s)) (as_str d))

-- a number below 2^32, which an enumerator has
abbrev pub as_label : ℕ → Option ℤ
as_label n = if nat_lt n (2 ^ 32) then Some (pos n) else None

-- an enumerator: the first whose label the text is
abbrev pub label_in : Names → Data → Option ℤ
label_in labels d = option_and_then (λ s. option_and_then as_label (position (λ l. bytes_eq (text_of l) s) labels)) (as_str d)

-- a number of a scalar type
unfoldable pub numeral_in : Scalar → Data → Option ℤ
numeral_in boolean d = option_map (λ b. pos (from_bool b)) (as_bool d)
numeral_in char d = letter_in d
numeral_in (unsigned s) d = integer_in (lowest (unsigned s)) (limit (unsigned s)) d
numeral_in (signed s) d = integer_in (lowest (signed s)) (limit (signed s)) d
numeral_in (enumeration name labels) d = label_in labels d

-- the same of a type that may be no scalar
unfoldable pub number_in : Kind → Data → Option ℤ
number_in (scalar s) d = numeral_in s d
number_in (words bound) d = None
number_in (sequence k bound) d = None
number_in (array k n) d = None
number_in (structure name ms) d = None
number_in (union name d cs) e = None
