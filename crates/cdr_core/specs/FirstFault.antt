-- The first fault of values in a row, and of a list: each value before it is there, and the one there does not. The
-- causes and their order are own profile.
use Rattle.std.specs.Prelude.{◌≡◌, ◌≤◌, ◌<◌, ℕ, List, [], ◌∷◌, ◌⊎◌, length}
use Rattle.std.specs.Int.{w32}
use Rattle.std.specs.List.{AllByRecursion, flat_map}
use Rattle.cdr_core.specs.declared.fault.CdrFault.{CdrFault}
use Rattle.cdr_core.specs.Field.{Field}
use Rattle.cdr_core.specs.Cursor.{Cursor}
use Rattle.cdr_core.specs.Basic.{BasicType, integer, octet_sequence, BasicValue, unsigned, type_of}
use Rattle.cdr_core.specs.Passing.{Spans, Passes, Fails, FailsCount}

-- a value of the basic type is between two cursors
abbrev pub Stands : BasicType → Cursor → Cursor → Type 0
Stands kind c d = (v : BasicValue) × (type_of v ≡ kind) × Passes c d v

-- values of these types are there one after the other, up to one of which none does
abbrev pub FailsIn : List BasicType → Cursor → CdrFault → Type 0
FailsIn [] c f = ⊥
FailsIn (kind ∷ kinds) c f = Fails c kind f ⊎ ((d : Cursor) × Stands kind c d × FailsIn kinds d f)

-- the basic types of an item
abbrev pub item : List BasicType
item = integer w32 ∷ octet_sequence ∷ []

-- of so many values some are there, and the next one fails
pub record FailsAmong {E A : Type 0} (fields : A → List Field) (Fits : A → Type 0) (Bad : Cursor → E → Type 0) (count : ℕ)
    (c : Cursor) (e : E) : Type 0 where
  pub before : List A
  pub fit : AllByRecursion Fits before
  pub few : length before < count
  pub behind : Cursor
  pub spans : Spans c behind (flat_map fields before)
  pub fails : Bad behind e

-- a count is between two cursors, of at most the number of bytes after it
abbrev pub Counts : ℕ → Cursor → Cursor → Type 0
Counts count c d = Passes c d (unsigned w32 count) × (count ≤ length d.rest)

-- a list after its count fails: the count, or the first value that does
abbrev pub FailsList : {A : Type 0} → (A → List Field) → (A → Type 0) → (Cursor → CdrFault → Type 0) → Cursor → CdrFault
    → Type 0
FailsList fields Fits Bad c f =
    FailsCount c f ⊎ ((count : ℕ) × (d : Cursor) × Counts count c d × FailsAmong fields Fits Bad count d f)
