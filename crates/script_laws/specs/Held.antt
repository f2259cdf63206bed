-- Things as a repository takes them, and what else files give.
use Rattle.std.specs.Prelude.{◌≡◌, ◌≤◌, ◌<◌, ◌^◌, ℕ, ◌+◌, ◌&&◌, Bool, true, false, List, [], ◌∷◌, ◌++◌, length, slice_get, Some}
use Rattle.cdr_values.specs.Trees.{Scalar, boolean, char, unsigned, signed, enumeration, Kind, scalar, words, sequence, array, structure, union, Members, no_members, member, Cases, no_cases, case, text}
use Rattle.cdr_values.specs.Fitting.{is_of}
use Rattle.idl_types.specs.Things.{Thing, constant, exception, interface, ParamView, OperationView, ConstantView, ExceptionView, InterfaceView}
use Rattle.idl_types.specs.Declaring.{may_declare}
use Rattle.script_laws.specs.Kinds.{HasKind}

-- an enum has a label
abbrev pub has_labels_scalar : Scalar → Bool
has_labels_scalar (enumeration name []) = false
has_labels_scalar (enumeration name (l ∷ ls)) = true
has_labels_scalar boolean = true
has_labels_scalar char = true
has_labels_scalar (unsigned s) = true
has_labels_scalar (signed s) = true

-- each enum in a type has one
abbrev mutual
  pub has_labels : Kind → Bool
  has_labels (scalar s) = has_labels_scalar s
  has_labels (words bound) = true
  has_labels (sequence k bound) = has_labels k
  has_labels (array k n) = has_labels k
  has_labels (structure name ms) = have_labels ms
  has_labels (union name d cs) = has_labels d && cases_have_labels cs

  -- in the types of members
  pub have_labels : Members → Bool
  have_labels no_members = true
  have_labels (member name k ms) = has_labels k && have_labels ms

  -- in the types of the members of cases
  pub cases_have_labels : Cases → Bool
  cases_have_labels no_cases = true
  cases_have_labels (case labels is_default name k cs) = has_labels k && cases_have_labels cs

-- a repository takes each thing after those before it, after these
abbrev pub AreDeclared : List Thing → List Thing → Type 0
AreDeclared before [] = Unit {0}
AreDeclared before (t ∷ ts) = (may_declare before t ≡ true) × AreDeclared (before ++ t ∷ []) ts

-- there are no more things, no more exceptions of an operation, and no longer ids of exceptions than four bytes count
pub record AreCounted (ts : List Thing) : Type 0 where
  pub few : length ts < 2 ^ 32
  pub ids : (i : ℕ) (e : ExceptionView) → slice_get ts i ≡ Some (exception e) → length e.id + 1 < 2 ^ 32
  pub raises : (i : ℕ) (x : InterfaceView) (o : ℕ) (op : OperationView) → slice_get ts i ≡ Some (interface x) → slice_get x.operations o ≡ Some op → length op.raises ≤ 2 ^ 32

-- what a repository doesn't ask: constants have values of their kinds, ids of exceptions are texts, enums of parameters have labels, and
-- the things are counted
pub record ArePlain (ts : List Thing) : Type 0 where
  pub constants : (i : ℕ) (c : ConstantView) → slice_get ts i ≡ Some (constant c) → HasKind c.kind c.value
  pub texts : (i : ℕ) (e : ExceptionView) → slice_get ts i ≡ Some (exception e) → is_of (text e.id) (words 0) ≡ true
  pub labels : (i : ℕ) (x : InterfaceView) (o : ℕ) (op : OperationView) (j : ℕ) (p : ParamView) → slice_get ts i ≡ Some (interface x) → slice_get x.operations o ≡ Some op
      → slice_get op.params j ≡ Some p → has_labels p.kind ≡ true
  pub counted : AreCounted ts
