-- What names in expressions stand for. A single name is a variable first, else an enumerator or a constant as the interface's scope
-- has it (own profile).
use Rattle.std.specs.Prelude.{ℕ, Bool, false, List, [], ◌∷◌, slice_get, Result, Ok, Err, Option, Some, None}
use Rattle.std.specs.Option.{option_map}
use Rattle.cdr_values.specs.Trees.{Kind, scalar, words, sequence, array, structure, union, label}
use Rattle.idl_types.specs.declared.type_ref.TypeRef.{TypeRef}
use Rattle.idl_types.specs.Things.{ExceptionView, Thing, constant, named, exception, interface}
use Rattle.servant_scripts.specs.declared.phrase.At.{At}
use Rattle.servant_scripts.specs.declared.phrase.Part.{Part}
use Rattle.servant_scripts.specs.Trees.{Scoped}
use Rattle.script_names.specs.declared.meaning.Meaning.{Meaning}
use Rattle.script_names.specs.declared.meaning.Meaning.TheVariants as means
use Rattle.script_names.specs.Finding.{meant}
use Rattle.script_values.specs.Trees.{literal, slot}
use Rattle.script_checks.specs.declared.fault.CheckCause.{CheckCause}
use Rattle.script_checks.specs.declared.fault.CheckCause.TheVariants as cause
use Rattle.script_checks.specs.Dues.{short}
use Rattle.script_checks.specs.Scene.{Scene, Var, Typed, Checks, ◌>>=◌, refused, or_refused, find_var}

-- where the last part of a name is
abbrev pub last_of : At → List Part → At
last_of at [] = at
last_of at (p ∷ ps) = last_of p.at ps

-- where the last part of a scoped name is
abbrev pub last_part : Scoped → At
last_part n = last_of n.at n.parts

-- what a name means; a part that isn't found is unknown, at that part
abbrev pub known_or : CheckCause → Result Meaning At → Checks Meaning
known_or cause (Ok m) = Ok m
known_or cause (Err at) = refused cause at

-- what a name means in a scene; unknown as a name otherwise
abbrev pub meaning_at : Scene → Scoped → Checks Meaning
meaning_at s n = known_or cause.UnknownName (meant s.known s.interface n)

-- the kind of a type's enumerators, where it is an enum
abbrev pub enum_in : Option Thing → Option Kind
enum_in (Some (named t)) = Some t.kind
enum_in t = None

-- the constant that a thing is
abbrev pub constant_in : Option Thing → Option Typed
constant_in (Some (constant c)) = Some (literal c.value, c.kind)
constant_in t = None

-- the value of a meaning: a constant or an enumerator
abbrev pub value_of : List Thing → Meaning → Option Typed
value_of ts (means.Thing i) = constant_in (slice_get ts i)
value_of ts (means.Enumerator i n) = option_map (λ k. (literal (label (short n)), k)) (enum_in (slice_get ts i))
value_of ts means.Other = None

-- a name of a value; any other name is of the wrong kind, at its last part
abbrev pub value_named : Scene → Scoped → Checks Typed
value_named s n = meaning_at s n >>= λ m. or_refused cause.Kind (last_part n) (value_of s.things m)

-- the variable of a name of one part that isn't rooted
abbrev pub variable_of : List Var → Bool → List Part → Option (ℕ × Kind × Option TypeRef)
variable_of vs false (p ∷ []) = find_var 0 vs p.name
variable_of vs rooted parts = None

-- a variable, else a value
abbrev pub or_value : Scene → Scoped → Option (ℕ × Kind × Option TypeRef) → Checks Typed
or_value s n (Some v) = Ok (slot v.0, v.1)
or_value s n None = value_named s n

-- a name as an expression: the variable of that name, or else what it names
abbrev pub name_typed : Scene → List Var → Scoped → Checks Typed
name_typed s vs n = or_value s n (variable_of vs n.rooted n.parts)

-- the struct that a type is
abbrev pub as_struct : Kind → Option Kind
as_struct (structure name ms) = Some (structure name ms)
as_struct (scalar s) = None
as_struct (words n) = None
as_struct (sequence k n) = None
as_struct (array k n) = None
as_struct (union name d cs) = None

-- the place and the type of the struct that a meaning is; an older struct may have a further name
abbrev pub struct_in : ℕ → Option Thing → Option (ℕ × Kind)
struct_in i (Some (named t)) = option_map (λ k. (i, k)) (as_struct t.kind)
struct_in i t = None

-- the struct that a name means, by its place
abbrev pub struct_of : List Thing → Meaning → Option (ℕ × Kind)
struct_of ts (means.Thing i) = struct_in i (slice_get ts i)
struct_of ts m = None

-- a name of a struct
abbrev pub struct_named : Scene → Scoped → Checks (ℕ × Kind)
struct_named s n = meaning_at s n >>= λ m. or_refused cause.Kind (last_part n) (struct_of s.things m)

-- the place of the exception that a meaning is, and the exception
abbrev pub exception_in : ℕ → Option Thing → Option (ℕ × ExceptionView)
exception_in i (Some (exception e)) = Some (i, e)
exception_in i t = None

-- the exception that a name means, by its place
abbrev pub exception_of : List Thing → Meaning → Option (ℕ × ExceptionView)
exception_of ts (means.Thing i) = exception_in i (slice_get ts i)
exception_of ts m = None

-- a name of an exception
abbrev pub exception_named : Scene → Scoped → Checks (ℕ × ExceptionView)
exception_named s n = meaning_at s n >>= λ m. or_refused cause.Kind (last_part n) (exception_of s.things m)
