-- The number that a value of a scalar type is.
use Rattle.std.specs.Prelude.{ℕ, ℤ, pos, Option, Some, None, option_and_then}
use Rattle.std.specs.Int.{from_bool}
use Rattle.cdr_core.specs.Field.{Field}
use Rattle.cdr_values.specs.Trees.{Scalar, boolean, char, unsigned, signed, enumeration, Kind, scalar, Value, truth, number, letter, label}
use Rattle.cdr_values.specs.Spelling.{tag_field}

-- the number of a boolean
abbrev pub truth_of : Value → Option ℤ
truth_of (truth b) = Some (pos (from_bool b))
truth_of _ = None

-- that of a char
abbrev pub letter_of : Value → Option ℤ
letter_of (letter n) = Some (pos n)
letter_of _ = None

-- that of an octet or an integer
abbrev pub integer_of : Value → Option ℤ
integer_of (number z) = Some z
integer_of _ = None

-- that of an enumerator
abbrev pub label_of : Value → Option ℤ
label_of (label n) = Some (pos n)
label_of _ = None

-- the number, where the value may be one of the type
abbrev pub numeral : Scalar → Value → Option ℤ
numeral boolean v = truth_of v
numeral char v = letter_of v
numeral (unsigned s) v = integer_of v
numeral (signed s) v = integer_of v
numeral (enumeration name labels) v = label_of v

-- the same of a type that may be no scalar
abbrev pub numeral_of : Kind → Value → Option ℤ
numeral_of (scalar s) v = numeral s v
numeral_of _ v = None

-- the field of a value that is a number of the type
abbrev pub plain_field : Kind → Value → Option Field
plain_field k v = option_and_then (tag_field k) (numeral_of k v)
