-- Where bytes stop to spell a value of a type, and why: what is before is spelled, and what is there is not. No
-- reading is cited. CORBA 3.0.3, section 15.3; the causes and their order are own profile.
use Rattle.std.specs.Prelude.{◌≡◌, ◌≤◌, ◌<◌, ◌⊎◌, ℕ, ℤ, zero, suc, true, List, length, Option, Some, None}
use Rattle.std.specs.Int.{w32, byte_len}
use Rattle.cdr_core.specs.declared.fault.CdrFault.{CdrFault}
use Rattle.cdr_core.specs.declared.fault.CdrCause.TheVariants.{BadEnum, OverBound}
use Rattle.cdr_core.specs.Basic.{unsigned, text, string}
use Rattle.cdr_core.specs.Basic as core
use Rattle.cdr_core.specs.Cursor.{Cursor, fault, aligned}
use Rattle.cdr_core.specs.Passing.{Passes, IsShort, FailsCount}
use Rattle.cdr_core.specs.Passing as passing
use Rattle.cdr_values.specs.Trees.{wide, Scalar, boolean, char, signed, enumeration, Kind, scalar, words, sequence, array, structure, union, Members, no_members, member, Cases, no_cases, case, Value, values_of}
use Rattle.cdr_values.specs.Trees as trees
use Rattle.cdr_values.specs.Choice.{choose}
use Rattle.cdr_values.specs.Passing.{Passed}
use Rattle.cdr_values.specs.Spelling.{is_above, is_count, one_field, tag_field, fields_of, fields_each}

-- a number is there that no enumerator has
pub record IsNoLabel (len : ℕ) (c : Cursor) (f : CdrFault) : Type 0 where
  pub number : ℕ
  pub behind : Cursor
  pub passes : Passes c behind (unsigned w32 number)
  pub high : len ≤ number
  pub told : f ≡ fault BadEnum (aligned 4 c.place)

-- a string is there that is longer than its bound
pub record IsLongText (bound : ℕ) (c : Cursor) (f : CdrFault) : Type 0 where
  pub bytes : List ℕ
  pub behind : Cursor
  pub passes : Passes c behind (text bytes)
  pub high : is_above bound (length bytes) ≡ true
  pub told : f ≡ fault OverBound (aligned 4 c.place)

-- a count is there that is above its bound, though as many bytes are left
pub record IsHighCount (bound : ℕ) (c : Cursor) (f : CdrFault) : Type 0 where
  pub count : ℕ
  pub behind : Cursor
  pub passes : Passes c behind (unsigned w32 count)
  pub room : count ≤ length behind.rest
  pub high : is_above bound count ≡ true
  pub told : f ≡ fault OverBound (aligned 4 c.place)

-- a count is there that is within its bound, and as many bytes are left
pub record Counts (bound n : ℕ) (c d : Cursor) : Type 0 where
  pub passes : Passes c d (unsigned w32 n)
  pub room : n ≤ length d.rest
  pub within : is_count bound n ≡ true

-- no number of the type is there
abbrev pub FailsScalar : Scalar → Cursor → CdrFault → Type 0
FailsScalar boolean c f = passing.Fails c core.boolean f
FailsScalar char c f = IsShort 1 c f
FailsScalar (trees.unsigned s) c f = IsShort (byte_len (wide s)) c f
FailsScalar (signed s) c f = IsShort (byte_len (wide s)) c f
FailsScalar (enumeration name labels) c f = IsShort 4 c f ⊎ IsNoLabel (length labels) c f

-- no discriminator is there; a type whose values are no numbers has none
abbrev pub FailsTag : Kind → Cursor → CdrFault → Type 0
FailsTag (scalar s) c f = FailsScalar s c f
FailsTag _ c f = f ≡ fault BadEnum c.place

-- fewer elements than so many are there, and after them is none, for the cause that the fact tells
pub record FailsAmong (Bad : Cursor → CdrFault → Type 0) (k : Kind) (n : ℕ) (c : Cursor) (f : CdrFault) : Type 0 where
  pub before : List Value
  pub behind : Cursor
  pub few : length before < n
  pub stand : Passed c behind (fields_each (values_of before) k)
  pub fails : Bad behind f

-- no value of the type is there, and this is the first fault
abbrev mutual
  pub Fails : Kind → Cursor → CdrFault → Type 0
  Fails (scalar s) c f = FailsScalar s c f
  Fails (words bound) c f = passing.Fails c string f ⊎ IsLongText bound c f
  Fails (sequence k bound) c f =
      (FailsCount c f ⊎ IsHighCount bound c f) ⊎ ((n : ℕ) × (d : Cursor) × Counts bound n c d × FailsAmong (Fails k) k n d f)
  Fails (array k n) c f = FailsAmong (Fails k) k n c f
  Fails (structure name ms) c f = FailsMembers ms c f
  Fails (union name d cs) c f =
      FailsTag d c f ⊎ ((z : ℤ) × (e : Cursor) × Passed c e (one_field (tag_field d z)) × FailsChosen cs (choose z cs) e f)

  -- the first member is not there, or it does and one after it does not
  pub FailsMembers : Members → Cursor → CdrFault → Type 0
  FailsMembers no_members c f = ⊥
  FailsMembers (member name k ms) c f =
      Fails k c f ⊎ ((v : Value) × (d : Cursor) × Passed c d (fields_of v k) × FailsMembers ms d f)

  -- the member of the case at an index is not there
  pub FailsChosen : Cases → Option ℕ → Cursor → CdrFault → Type 0
  FailsChosen cs None c f = ⊥
  FailsChosen no_cases (Some i) c f = ⊥
  FailsChosen (case labels is_default name k cs) (Some zero) c f = Fails k c f
  FailsChosen (case labels is_default name k cs) (Some (suc i)) c f = FailsChosen cs (Some i) c f
