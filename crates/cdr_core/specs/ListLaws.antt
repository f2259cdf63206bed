-- What a reading of a value has to do with its spelling, and how it passes on to lists.
use Rattle.std.specs.Prelude.{◌≡◌, ◌<◌, ℕ, List, ◌++◌, Ok, Err}
use Rattle.orb_base.specs.declared.order.Order.{Order}
use Rattle.cdr_core.specs.Field.{Field, fields_end}
use Rattle.cdr_core.specs.Spelling.{fields_bytes}
use Rattle.cdr_core.specs.Cursor.{Cursor, cursor, AreBytes}
use Rattle.cdr_core.specs.Passing.{Spans}
use Rattle.cdr_core.specs.Sequence.{Parsed}
use Rattle.cdr_core.specs.Lists.{item_fields, FitsItem, item_at, made_at, list_fields, FitsList, list_at}
use Rattle.cdr_core.specs.Lists.{tagged_of, tagged_fields, FitsTagged, context_of, context_fields, FitsContext}
use Rattle.cdr_core.specs.FirstFault.{FailsIn, item, FailsList}

-- what the reading takes fits, and is spelled there
abbrev pub TakesOnly : {E A : Type 0} → (Cursor → Parsed E A) → (A → List Field) → (A → Type 0) → Type 0
TakesOnly {E} {A} one fields Fits =
    (c : Cursor) (y : A × Cursor) → AreBytes c.rest → one c ≡ Ok y → Fits y.0 × Spans c y.1 (fields y.0)

-- what fits and is spelled there the reading takes
abbrev pub TakesEach : {E A : Type 0} → (Cursor → Parsed E A) → (A → List Field) → (A → Type 0) → Type 0
TakesEach {E} {A} one fields Fits = (c d : Cursor) (a : A) → Fits a → Spans c d (fields a) → one c ≡ Ok (a, d)

-- the fault that the reading tells is the first one there
abbrev pub TellsOnly : {E A : Type 0} → (Cursor → Parsed E A) → (Cursor → E → Type 0) → Type 0
TellsOnly {E} one Bad = (c : Cursor) (e : E) → AreBytes c.rest → one c ≡ Err e → Bad c e

-- the first fault there the reading tells
abbrev pub TellsEach : {E A : Type 0} → (Cursor → Parsed E A) → (Cursor → E → Type 0) → Type 0
TellsEach {E} one Bad = (c : Cursor) (e : E) → Bad c e → one c ≡ Err e

-- a reading gives a value exactly where the bytes before spell it, and a fault exactly where it is the first
pub record IsExactFor {E A : Type 0} (one : Cursor → Parsed E A) (fields : A → List Field) (Fits : A → Type 0)
    (Bad : Cursor → E → Type 0) : Type 0 where
  pub found : TakesOnly one fields Fits
  pub only : TakesEach one fields Fits
  pub fails : TellsOnly one Bad
  pub told : TellsEach one Bad

-- each value takes a byte at least
abbrev pub TakesRoom : {A : Type 0} → (A → List Field) → Type 0
TakesRoom {A} fields = (a : A) (place : ℕ) → place < fields_end place (fields a)

-- the reading of an item is exact
abbrev pub ItemsAreExact : Type 0
ItemsAreExact = IsExactFor item_at item_fields FitsItem (FailsIn item)

-- so is that of a list of tagged data
abbrev pub TaggedListsAreExact : Type 0
TaggedListsAreExact =
    IsExactFor (list_at (made_at tagged_of)) (list_fields tagged_fields) (FitsList FitsTagged)
    (FailsList tagged_fields FitsTagged (FailsIn item))

-- and that of a list of service contexts
abbrev pub ContextListsAreExact : Type 0
ContextListsAreExact =
    IsExactFor (list_at (made_at context_of)) (list_fields context_fields) (FitsList FitsContext)
    (FailsList context_fields FitsContext (FailsIn item))

-- what is spelled is read back, whatever follows, in every order and at every place
abbrev pub ReadsBackAs : {E A : Type 0} → (Cursor → Parsed E A) → (A → List Field) → (A → Type 0) → Type 0
ReadsBackAs {E} {A} one fields Fits =
    (order : Order) (place : ℕ) (a : A) (rest : List ℕ) → Fits a
    → one (cursor order place (fields_bytes order place (fields a) ++ rest))
    ≡ Ok (a, cursor order (fields_end place (fields a)) rest)

-- a list of items is read back
abbrev pub ListsReadBack : Type 0
ListsReadBack = ReadsBackAs (list_at item_at) (list_fields item_fields) (FitsList FitsItem)
