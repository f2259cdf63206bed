-- Types with their leaves and levels: own profile. Above the most that a file may have, neither is counted further.
use Rattle.std.specs.Prelude.{ℕ, ◌+◌, ◌*◌, ◌||◌, min, nat_lt, Bool, List, [], ◌∷◌}
use Rattle.cdr_values.specs.Trees.{size1, size2, size4, size8, boolean, char, unsigned, signed, Kind, scalar, sequence, array}
use Rattle.idl_grammar.specs.declared.label.Basic.{Basic}
use Rattle.idl_grammar.specs.declared.label.Basic.TheVariants as basic

-- a type, its leaves, and its levels
pub record Sized : Type 0 where
  pub kind : Kind
  pub leaves : ℕ
  pub levels : ℕ

-- one more than the leaves that a file may have
abbrev pub most : ℕ
most = 1048577

-- a sum, counted no further than that
abbrev pub plus : ℕ → ℕ → ℕ
plus m n = min (m + n) most

-- a product, counted no further than that
abbrev pub times : ℕ → ℕ → ℕ
times m n = min (m * n) most

-- a primitive, an enum or a string is one leaf, and has no level
abbrev pub leaf : Kind → Sized
leaf kind = record { kind = kind; leaves = 1; levels = 0 }

-- a sequence has one leaf more than its element, and is a level above it
abbrev pub sequence_of : ℕ → Sized → Sized
sequence_of bound k = record { kind = sequence k.kind bound; leaves = plus k.leaves 1; levels = plus k.levels 1 }

-- an array has its element's leaves as often as its length says, and is a level above it
abbrev pub array_of : ℕ → Sized → Sized
array_of n k = record { kind = array k.kind n; leaves = times k.leaves n; levels = plus k.levels 1 }

-- an array of several lengths, the innermost first
abbrev pub arrays_of : List ℕ → Sized → Sized
arrays_of [] k = k
arrays_of (n ∷ ns) k = arrays_of ns (array_of n k)

-- the leaves of such an array, whose element has so many
abbrev pub array_leaves : List ℕ → ℕ → ℕ
array_leaves [] leaves = leaves
array_leaves (n ∷ ns) leaves = array_leaves ns (times leaves n)

-- and its levels
abbrev pub array_levels : List ℕ → ℕ → ℕ
array_levels [] levels = levels
array_levels (n ∷ ns) levels = array_levels ns (plus levels 1)

-- a type has at most 65,536 leaves and 64 levels
abbrev pub is_large : Sized → Bool
is_large k = nat_lt 65536 k.leaves || nat_lt 64 k.levels

-- the types of words
abbrev pub basic_kind : Basic → Kind
basic_kind basic.Boolean = scalar boolean
basic_kind basic.Octet = scalar (unsigned size1)
basic_kind basic.Char = scalar char
basic_kind basic.Short = scalar (signed size2)
basic_kind basic.UShort = scalar (unsigned size2)
basic_kind basic.Long = scalar (signed size4)
basic_kind basic.ULong = scalar (unsigned size4)
basic_kind basic.LongLong = scalar (signed size8)
basic_kind basic.ULongLong = scalar (unsigned size8)
