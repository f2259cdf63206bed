-- Kinds of expressions (own profile): all integers and octet are one kind, texts of any bound are, sequences are where their elements
-- are, arrays where their lengths are too, and enums, structs and unions by their ids.
use Rattle.std.specs.Prelude.{ℕ, ◌==◌, ◌&&◌, Bool, true, false, Option, Some, None}
use Rattle.std.specs.Str.{bytes_eq}
use Rattle.cdr_values.specs.Trees.{size4, Scalar, boolean, char, unsigned, signed, enumeration, Kind, scalar, words, sequence, array, structure, union}

-- two scalar types are of one kind
abbrev pub same_scalar : Scalar → Scalar → Bool
same_scalar boolean boolean = true
same_scalar char char = true
same_scalar (unsigned a) (unsigned b) = true
same_scalar (unsigned a) (signed b) = true
same_scalar (signed a) (unsigned b) = true
same_scalar (signed a) (signed b) = true
same_scalar (enumeration a xs) (enumeration b ys) = bytes_eq a b
same_scalar _ _ = false

-- two types are
abbrev pub same_kind : Kind → Kind → Bool
same_kind (scalar a) (scalar b) = same_scalar a b
same_kind (words m) (words n) = true
same_kind (sequence a m) (sequence b n) = same_kind a b
same_kind (array a m) (array b n) = (m == n) && same_kind a b
same_kind (structure a ms) (structure b ns) = bytes_eq a b
same_kind (union a d cs) (union b e ds) = bytes_eq a b
same_kind _ _ = false

-- the kind of numbers
abbrev pub number_kind : Kind
number_kind = scalar (signed size4)

-- the kind of truths
abbrev pub truth_kind : Kind
truth_kind = scalar boolean

-- the kind of texts
abbrev pub text_kind : Kind
text_kind = words 0

-- a kind that has a length: a text, a sequence, an array
abbrev pub has_len : Kind → Bool
has_len (words n) = true
has_len (sequence k n) = true
has_len (array k n) = true
has_len (scalar s) = false
has_len (structure name ms) = false
has_len (union name d cs) = false

-- a kind whose values are compared: numbers, truths, characters, labels and texts
abbrev pub is_simple : Kind → Bool
is_simple (scalar s) = true
is_simple (words n) = true
is_simple (sequence k n) = false
is_simple (array k n) = false
is_simple (structure name ms) = false
is_simple (union name d cs) = false

-- the kind of the elements of a sequence or an array
abbrev pub element_of : Kind → Option Kind
element_of (sequence k n) = Some k
element_of (array k n) = Some k
element_of (scalar s) = None
element_of (words n) = None
element_of (structure name ms) = None
element_of (union name d cs) = None

-- a list of so many may be of this kind: only an array asks for a number
abbrev pub is_list_len : Kind → ℕ → Bool
is_list_len (array k n) m = n == m
is_list_len k m = true
