-- What is shown of values has no float, so that its text is known.
use Rattle.std.proofs.Common.{◌≡◌, ℕ, ℤ, pos, negsuc, ◌^◌, Bool, true, false, if◌then◌else◌, List, [], ◌∷◌, Option, Some, None, option_map, Ordering, Less, Equal, Greater, refl}
use Rattle.std.specs.Prelude.{nat_lt, slice_get, unwrap_or}
use Rattle.std.specs.Int.{from_bool}
use Rattle.std.specs.Ordering.{nat_cmp, match_ordering}
use Rattle.std.specs.Cmp.Lexicographic.{slice_cmp}
use Rattle.std.proofs.lemmas.Bool.{or_from, or_parts}
use Rattle.serde_json.specs.Data as json
use Rattle.serde_json.specs.Data.{Data, put}
use Rattle.serde_json.specs.Find.{of_integer}
use Rattle.serde_json.specs.Written.{has_float, items_have_float, members_have_float}
use Rattle.cdr_values.specs.Choice.{choose, kind_at}
use Rattle.cdr_values.specs.Trees.{Scalar, boolean, char, unsigned, signed, enumeration, Kind, scalar, words, sequence, array, structure, union, Members, no_members, member, Value, truth, number, letter, text, items, chosen, label, Values, no_values, value}
use Rattle.value_json.specs.Numerals.{has_64_bits, integer_data, letter_data, label_data, numeral_data, number_data}
use Rattle.value_json.specs.Operations.{shown_of_each}
use Rattle.value_json.specs.Shown.{shown, shown_each, shown_members, shown_chosen, words_data}
use Rattle.value_json.specs.Texts.{is_byte, text_data, text_of}

-- ---- numbers

either : (b : Bool) (d e : Data) → has_float d ≡ false → has_float e ≡ false → has_float (if b then d else e) ≡ false
either true d e p q = p
either false d e p q = q

integer : (z : ℤ) → has_float (json.number (of_integer z)) ≡ false
integer (pos n) = refl
integer (negsuc n) = refl

integers : (z : ℤ) → has_float (integer_data z) ≡ false
integers z = either (has_64_bits z) (json.number (of_integer z)) json.null (integer z) refl

letters : (z : ℤ) → has_float (letter_data z) ≡ false
letters (pos c) = either (is_byte c) (text_data (c ∷ [])) json.null refl refl
letters (negsuc c) = refl

found : (o : Option (List ℕ)) → has_float (unwrap_or (option_map text_data o) json.null) ≡ false
found None = refl
found (Some name) = refl

labelled : (labels : List (List ℕ)) (z : ℤ) → has_float (label_data labels z) ≡ false
labelled labels (pos n) =
    either (nat_lt n (2 ^ 32)) (unwrap_or (option_map text_data (slice_get labels n)) json.null) json.null (found (slice_get labels n)) refl
labelled labels (negsuc n) = refl

numerals : (s : Scalar) (z : ℤ) → has_float (numeral_data s z) ≡ false
numerals boolean z = refl
numerals char z = letters z
numerals (unsigned s) z = integers z
numerals (signed s) z = integers z
numerals (enumeration name labels) z = labelled labels z

numbers : (k : Kind) (z : ℤ) → has_float (number_data k z) ≡ false
numbers (scalar s) z = numerals s z
numbers (words bound) z = refl
numbers (sequence k bound) z = refl
numbers (array k n) z = refl
numbers (structure name ms) z = refl
numbers (union name d cs) z = refl

texts : (bytes : List ℕ) (k : Kind) → has_float (words_data bytes k) ≡ false
texts bytes (scalar s) = refl
texts bytes (words bound) = refl
texts bytes (sequence k bound) = refl
texts bytes (array k n) = refl
texts bytes (structure name ms) = refl
texts bytes (union name d cs) = refl

-- ---- objects

one_of : (o : Ordering) (a b c : json.Members) → members_have_float a ≡ false → members_have_float b ≡ false → members_have_float c ≡ false
    → members_have_float (match_ordering o a b c) ≡ false
one_of Less a b c p q r = p
one_of Equal a b c p q r = q
one_of Greater a b c p q r = r

with_put : (k : List ℕ) (d : Data) (os : json.Members) → has_float d ≡ false → members_have_float os ≡ false → members_have_float (put k d os) ≡ false
with_put k d json.no_members p q = or_from (has_float d) false p refl
with_put k d (json.member l e os) p q =
    let parts = or_parts (has_float e) (members_have_float os) q in
    one_of (slice_cmp nat_cmp k l) (json.member k d (json.member l e os)) (json.member l d os) (json.member l e (put k d os))
    (or_from (has_float d) (members_have_float (json.member l e os)) p q)
    (or_from (has_float d) (members_have_float os) p parts.1)
    (or_from (has_float e) (members_have_float (put k d os)) parts.0 (with_put k d os p parts.1))

-- ---- any value

mutual
  no_float : (v : Value) (k : Kind) → has_float (shown v k) ≡ false
  no_float (truth b) k = numbers k (pos (from_bool b))
  no_float (number z) k = numbers k z
  no_float (letter c) k = numbers k (pos c)
  no_float (label n) k = numbers k (pos n)
  no_float (text bytes) k = texts bytes k
  no_float (items vs) (scalar s) = refl
  no_float (items vs) (words bound) = refl
  no_float (items vs) (sequence k bound) = no_float_each vs k
  no_float (items vs) (array k n) = no_float_each vs k
  no_float (items vs) (structure name ms) = no_float_members vs ms json.no_members refl
  no_float (items vs) (union name d cs) = refl
  no_float (chosen z vs) (scalar s) = refl
  no_float (chosen z vs) (words bound) = refl
  no_float (chosen z vs) (sequence k bound) = refl
  no_float (chosen z vs) (array k n) = refl
  no_float (chosen z vs) (structure name ms) = refl
  no_float (chosen z vs) (union name d cs) =
      or_from (has_float (number_data d z)) (members_have_float (shown_chosen vs (kind_at (choose z cs) cs))) (numbers d z)
      (no_float_chosen vs (kind_at (choose z cs) cs))

  no_float_each : (vs : Values) (k : Kind) → items_have_float (shown_each vs k) ≡ false
  no_float_each no_values k = refl
  no_float_each (value v vs) k = or_from (has_float (shown v k)) (items_have_float (shown_each vs k)) (no_float v k) (no_float_each vs k)

  no_float_members : (vs : Values) (ms : Members) (os : json.Members) → members_have_float os ≡ false → members_have_float (shown_members vs ms os) ≡ false
  no_float_members no_values ms os p = p
  no_float_members (value v vs) no_members os p = p
  no_float_members (value v vs) (member name k ms) os p =
      no_float_members vs ms (put (text_of name) (shown v k) os) (with_put (text_of name) (shown v k) os (no_float v k) p)

  no_float_chosen : (vs : Values) (o : Option Kind) → members_have_float (shown_chosen vs o) ≡ false
  no_float_chosen no_values o = refl
  no_float_chosen (value v vs) None = refl
  no_float_chosen (value v vs) (Some k) = or_from (has_float (shown v k)) false (no_float v k) refl

-- what is shown of values has no float
pub no_float_of_each : (ks : List Kind) (vs : List Value) → items_have_float (shown_of_each ks vs) ≡ false
unfolding shown_of_each
no_float_of_each [] vs = refl
no_float_of_each (k ∷ ks) [] = refl
no_float_of_each (k ∷ ks) (v ∷ vs) = or_from (has_float (shown v k)) (items_have_float (shown_of_each ks vs)) (no_float v k) (no_float_of_each ks vs)
