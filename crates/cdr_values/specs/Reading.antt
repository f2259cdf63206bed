-- Reading a value of a type from left to right, up to the first fault: CORBA 3.0.3, section 15.3. The causes and their
-- order are own profile.
use Rattle.std.specs.Prelude.{ℕ, zero, suc, ℤ, pos, nat_abs, ◌==◌, Bool, true, false, List, [], ◌∷◌, ◌++◌, length, nat_lt, if◌then◌else◌, Option, Some, None, Result, Ok, Err}
use Rattle.std.specs.Int.{w8, w32, from_bool, cast_signed}
use Rattle.cdr_core.specs.declared.fault.CdrCause.TheVariants.{BadEnum, OverBound}
use Rattle.cdr_core.specs.Cursor.{Cursor, Reads, fault, aligned}
use Rattle.cdr_core.specs.Sequence.{◌>>=◌}
use Rattle.cdr_core.specs.Reading.{number_at, bool_at, count_at, string_at}
use Rattle.cdr_values.specs.Trees.{wide, Scalar, boolean, char, unsigned, signed, enumeration, Kind, scalar, words, sequence, array, structure, union, Members, no_members, member, Cases, no_cases, case, Value, truth, number, letter, text, items, chosen, label, Values, no_values, value, values_of}
use Rattle.cdr_values.specs.Spelling.{is_above}
use Rattle.cdr_values.specs.Choice.{choose}

-- what a reading gives, made into something else
abbrev pub as_read : {A B : Type 0} → (A → B) → Reads A → Reads B
as_read f reading = reading >>= λ x. Ok (f x.0, x.1)

-- the number of an enumerator, one of so many
unfoldable pub label_at : ℕ → Cursor → Reads ℕ
label_at len c = number_at w32 c >>= λ x. if nat_lt x.0 len then Ok x else Err (fault BadEnum (aligned 4 c.place))

-- the number of a value of the type
unfoldable pub scalar_at : Scalar → Cursor → Reads ℤ
scalar_at boolean c = as_read (λ b. pos (from_bool b)) (bool_at c)
scalar_at char c = as_read pos (number_at w8 c)
scalar_at (unsigned s) c = as_read pos (number_at (wide s) c)
scalar_at (signed s) c = as_read (cast_signed (wide s)) (number_at (wide s) c)
scalar_at (enumeration name labels) c = as_read pos (label_at (length labels) c)

-- the value of the type that a number is
abbrev pub value_at : Scalar → ℤ → Value
value_at boolean z = truth (nat_abs z == 1)
value_at char z = letter (nat_abs z)
value_at (unsigned s) z = number z
value_at (signed s) z = number z
value_at (enumeration name labels) z = label (nat_abs z)

-- the number of a discriminator; a type whose values are no numbers has none
unfoldable pub tag_at : Kind → Cursor → Reads ℤ
tag_at (scalar s) c = scalar_at s c
tag_at (words bound) c = Err (fault BadEnum c.place)
tag_at (sequence k bound) c = Err (fault BadEnum c.place)
tag_at (array k n) c = Err (fault BadEnum c.place)
tag_at (structure name ms) c = Err (fault BadEnum c.place)
tag_at (union name d cs) c = Err (fault BadEnum c.place)

-- a string within its bound
unfoldable pub text_at : ℕ → Cursor → Reads (List ℕ)
text_at bound c = string_at c >>= λ x. if is_above bound (length x.0) then Err (fault OverBound (aligned 4 c.place)) else Ok x

-- the count of a sequence within its bound
unfoldable pub bounded_count_at : ℕ → Cursor → Reads ℕ
bounded_count_at bound c = count_at c >>= λ x. if is_above bound x.0 then Err (fault OverBound (aligned 4 c.place)) else Ok x

-- with these values before what is read
abbrev pub with_front : List Value → Reads (List Value) → Reads (List Value)
with_front front reading = as_read (λ vs. front ++ vs) reading

-- a value, and those that are read after it
abbrev pub then_values : (Cursor → Reads (List Value)) → Value × Cursor → Reads (List Value)
then_values more x = with_front (x.0 ∷ []) (more x.1)

-- the same reading, this often
unfoldable pub times : (Cursor → Reads Value) → ℕ → Cursor → Reads (List Value)
times one zero c = Ok ([], c)
times one (suc n) c = one c >>= then_values (times one n)

-- as many as a count says
abbrev pub counted : (Cursor → Reads Value) → ℕ × Cursor → Reads (List Value)
counted one x = times one x.0 x.1

-- elements or members as one value
abbrev pub as_items : Reads (List Value) → Reads Value
as_items = as_read (λ vs. items (values_of vs))

-- the member that a number chooses, with that number
abbrev pub then_member : Cases → (Option ℕ → Cursor → Reads Values) → ℤ × Cursor → Reads Value
then_member cs more x = as_read (chosen x.0) (more (choose x.0 cs) x.1)

-- a value of a type
unfoldable mutual
  pub read : Kind → Cursor → Reads Value
  read (scalar s) c = as_read (value_at s) (scalar_at s c)
  read (words bound) c = as_read text (text_at bound c)
  read (sequence k bound) c = as_items (bounded_count_at bound c >>= counted (read k))
  read (array k n) c = as_items (times (read k) n c)
  read (structure name ms) c = as_items (read_members ms c)
  read (union name d cs) c = tag_at d c >>= then_member cs (read_chosen cs)

  -- the members of a struct, in order
  pub read_members : Members → Cursor → Reads (List Value)
  read_members no_members c = Ok ([], c)
  read_members (member name k ms) c = read k c >>= then_values (read_members ms)

  -- the member of the case at an index, where there is one
  pub read_chosen : Cases → Option ℕ → Cursor → Reads Values
  read_chosen cs None c = Ok (no_values, c)
  read_chosen no_cases (Some i) c = Ok (no_values, c)
  read_chosen (case labels is_default name k cs) (Some zero) c = as_read (λ v. value v no_values) (read k c)
  read_chosen (case labels is_default name k cs) (Some (suc i)) c = read_chosen cs (Some i) c
