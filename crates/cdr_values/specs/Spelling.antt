-- What a value of a type is spelled as: a list of fields, whose pads, orders and places `cdr_core` says. CORBA 3.0.3,
-- section 15.3. Bounds, and that a length is below 2^32, are tested here alone.
use Rattle.std.specs.Prelude.{◌≡◌, ℕ, ℤ, pos, neg_ℤ, suc, zero, ◌+◌, ◌-◌, ◌*◌, ◌^◌, ◌==◌, ◌&&◌, not, min, nat_lt, int_le, int_lt, Bool, true, false, List, [], ◌∷◌, ◌++◌, length, if◌then◌else◌, Option, Some, None, is_none, option_map, option_and_then, IfSome}
use Rattle.std.specs.Int.{Width, w8, w32, byte_len, from_bool, cast_unsigned}
use Rattle.orb_base.specs.declared.order.Order.{Order}
use Rattle.orb_base.specs.NulFree.{nul_at}
use Rattle.cdr_core.specs.Field.{Field, string_fields}
use Rattle.cdr_core.specs.Field as core
use Rattle.cdr_core.specs.Spelling.{IsSpelled, fields_bytes}
use Rattle.cdr_values.specs.Trees.{wide, Scalar, boolean, char, unsigned, signed, enumeration, Kind, scalar, words, sequence, array, structure, union, Members, no_members, member, Cases, no_cases, case, Value, truth, number, letter, text, items, chosen, label, Values, no_values, value, values_len}
use Rattle.cdr_values.specs.Choice.{choose, kind_at}

-- how wide a number of the type is
abbrev pub width_of : Scalar → Width
width_of boolean = w8
width_of char = w8
width_of (unsigned s) = wide s
width_of (signed s) = wide s
width_of (enumeration name labels) = w32

-- the lowest number of the type
abbrev pub lowest : Scalar → ℤ
lowest (signed s) = neg_ℤ (pos (2 ^ (8 * byte_len (wide s) - 1)))
lowest boolean = pos 0
lowest char = pos 0
lowest (unsigned s) = pos 0
lowest (enumeration name labels) = pos 0

-- the number after the highest one
abbrev pub limit : Scalar → ℤ
limit boolean = pos 2
limit char = pos 256
limit (unsigned s) = pos (2 ^ (8 * byte_len (wide s)))
limit (signed s) = pos (2 ^ (8 * byte_len (wide s) - 1))
limit (enumeration name labels) = pos (min (length labels) (2 ^ 32))

-- the field of a number from the lowest one up to a limit, a negative one in two's complement; None out of this range
abbrev pub ranged : ℤ → ℤ → Width → ℤ → Option Field
ranged low high w z = if int_le low z && int_lt z high then Some (core.number w (cast_unsigned w z)) else None

-- the field of a number of the type; None where the type has no such number
abbrev pub number_field : Scalar → ℤ → Option Field
number_field s z = ranged (lowest s) (limit s) (width_of s) z

-- the field of a discriminator
abbrev pub tag_field : Kind → ℤ → Option Field
tag_field (scalar s) z = number_field s z
tag_field (words bound) z = None
tag_field (sequence k bound) z = None
tag_field (array k n) z = None
tag_field (structure name ms) z = None
tag_field (union name d cs) z = None

-- a value that is one field
abbrev pub one_field : Option Field → Option (List Field)
one_field = option_map (λ f. f ∷ [])

-- a length above its bound, where 0 is no bound
abbrev pub is_above : ℕ → ℕ → Bool
is_above bound n = not (bound == 0) && nat_lt bound n

-- whether a string of a bound may hold the bytes: no NUL, not too many
abbrev pub is_text : ℕ → List ℕ → Bool
is_text bound bytes = is_none (nul_at bytes) && (not (is_above bound (length bytes)) && nat_lt (length bytes + 1) (2 ^ 32))

-- whether a sequence of a bound may have so many elements
abbrev pub is_count : ℕ → ℕ → Bool
is_count bound n = not (is_above bound n) && nat_lt n (2 ^ 32)

-- the fields of a boolean
abbrev pub truth_fields : Bool → Kind → Option (List Field)
truth_fields b (scalar boolean) = one_field (number_field boolean (pos (from_bool b)))
truth_fields b _ = None

-- those of an octet or an integer
abbrev pub integer_fields : ℤ → Kind → Option (List Field)
integer_fields z (scalar (unsigned s)) = one_field (number_field (unsigned s) z)
integer_fields z (scalar (signed s)) = one_field (number_field (signed s) z)
integer_fields z _ = None

-- those of a char
abbrev pub letter_fields : ℕ → Kind → Option (List Field)
letter_fields n (scalar char) = one_field (number_field char (pos n))
letter_fields n _ = None

-- those of an enumerator
abbrev pub label_fields : ℕ → Kind → Option (List Field)
label_fields n (scalar (enumeration name labels)) = one_field (number_field (enumeration name labels) (pos n))
label_fields n _ = None

-- those of a string
abbrev pub text_fields : List ℕ → Kind → Option (List Field)
text_fields bytes (words bound) = if is_text bound bytes then Some (string_fields bytes) else None
text_fields bytes _ = None

-- with these fields before
abbrev pub behind : List Field → Option (List Field) → Option (List Field)
behind front more = option_map (λ fs. front ++ fs) more

-- one value's fields and those after them
abbrev pub both : Option (List Field) → Option (List Field) → Option (List Field)
both first more = option_and_then (λ fs. behind fs more) first

-- the fields of a value of a type; None where it is no value of the type
abbrev mutual
  pub fields_of : Value → Kind → Option (List Field)
  fields_of (truth b) k = truth_fields b k
  fields_of (number z) k = integer_fields z k
  fields_of (letter n) k = letter_fields n k
  fields_of (label n) k = label_fields n k
  fields_of (text bytes) k = text_fields bytes k
  fields_of (items vs) (scalar s) = None
  fields_of (items vs) (words bound) = None
  fields_of (items vs) (sequence k bound) =
      if is_count bound (values_len vs) then behind (core.number w32 (values_len vs) ∷ []) (fields_each vs k) else None
  fields_of (items vs) (array k n) = if values_len vs == n then fields_each vs k else None
  fields_of (items vs) (structure name ms) = fields_members vs ms
  fields_of (items vs) (union name d cs) = None
  fields_of (chosen z vs) (scalar s) = None
  fields_of (chosen z vs) (words bound) = None
  fields_of (chosen z vs) (sequence k bound) = None
  fields_of (chosen z vs) (array k n) = None
  fields_of (chosen z vs) (structure name ms) = None
  fields_of (chosen z vs) (union name d cs) = both (one_field (tag_field d z)) (fields_chosen vs (kind_at (choose z cs) cs))

  -- values of one type, one after the other
  pub fields_each : Values → Kind → Option (List Field)
  fields_each no_values k = Some []
  fields_each (value v vs) k = both (fields_of v k) (fields_each vs k)

  -- the members of a struct, in order
  pub fields_members : Values → Members → Option (List Field)
  fields_members no_values no_members = Some []
  fields_members no_values (member name k ms) = None
  fields_members (value v vs) no_members = None
  fields_members (value v vs) (member name k ms) = both (fields_of v k) (fields_members vs ms)

  -- the member of a union, where its number chooses one
  pub fields_chosen : Values → Option Kind → Option (List Field)
  fields_chosen no_values None = Some []
  fields_chosen no_values (Some k) = None
  fields_chosen (value v no_values) None = None
  fields_chosen (value v no_values) (Some k) = fields_of v k
  fields_chosen (value v (value w vs)) o = None

-- the bytes spell the value of the type from a place on, with pads of any content
abbrev pub Cdr : Order → ℕ → Kind → Value → List ℕ → Type 0
Cdr order place k v bytes = (fields : List Field) × (fields_of v k ≡ Some fields) × IsSpelled order place fields bytes
