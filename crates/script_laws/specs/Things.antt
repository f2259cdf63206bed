-- What a check relies on in the things of a repository.
use Rattle.std.specs.Prelude.{◌≡◌, ◌≤◌, ◌<◌, ◌^◌, ℕ, suc, true, List, [], ◌∷◌, length, slice_get, Some}
use Rattle.cdr_values.specs.Trees.{Kind, scalar, words, sequence, array, structure, union, Value, text}
use Rattle.cdr_values.specs.Fitting.{is_of}
use Rattle.idl_types.specs.declared.type_ref.Part.{Part}
use Rattle.idl_types.specs.Things.{Thing, constant, named, exception, interface, ParamView, OperationView, ConstantView, TypeView, ExceptionView, InterfaceView, id_of}
use Rattle.idl_types.specs.Finding.{thing_named}
use Rattle.idl_types.specs.References.{members_in, part_kind}
use Rattle.script_checks.specs.Built.{members_len}
use Rattle.script_laws.specs.Kinds.{HasKind}

-- how many sequences and arrays stand one in another, from the outside in
abbrev pub steps_in : Kind → ℕ
steps_in (sequence k bound) = suc (steps_in k)
steps_in (array k n) = suc (steps_in k)
steps_in (scalar s) = 0
steps_in (words bound) = 0
steps_in (structure name ms) = 0
steps_in (union name d cs) = 0

-- constants have values of their kinds, no two things have one id, ids of exceptions are texts, and references count all parts of all
-- things
pub record IsSound (ts : List Thing) : Type 0 where
  pub constants : (i : ℕ) (c : ConstantView) → slice_get ts i ≡ Some (constant c) → HasKind c.kind c.value
  pub ids : (i : ℕ) (t : Thing) → slice_get ts i ≡ Some t → thing_named ts (id_of t) ≡ Some t
  pub texts : (i : ℕ) (e : ExceptionView) → slice_get ts i ≡ Some (exception e) → is_of (text e.id) (words 0) ≡ true
  pub places : length ts ≤ 2 ^ 32
  pub members : (i : ℕ) (t : TypeView) → slice_get ts i ≡ Some (named t) → members_len (members_in t.kind) ≤ 2 ^ 32
  pub fields : (i : ℕ) (e : ExceptionView) → slice_get ts i ≡ Some (exception e) → length e.members ≤ 2 ^ 32
  pub operations : (i : ℕ) (x : InterfaceView) → slice_get ts i ≡ Some (interface x) → length x.operations ≤ 2 ^ 32
  pub params : (i : ℕ) (x : InterfaceView) (o : ℕ) (op : OperationView) → slice_get ts i ≡ Some (interface x) → slice_get x.operations o ≡ Some op → length op.params ≤ 2 ^ 32
  pub raises : (i : ℕ) (x : InterfaceView) (o : ℕ) (op : OperationView) → slice_get ts i ≡ Some (interface x) → slice_get x.operations o ≡ Some op → length op.raises ≤ 2 ^ 32
  pub steps : (i : ℕ) (t : Thing) (r : Part) (k : Kind) → slice_get ts i ≡ Some t → part_kind r t ≡ Some k → steps_in k < 2 ^ 32

-- values of the types of parameters, in order
abbrev pub AreOf : List ParamView → List Value → Type 0
AreOf [] [] = Unit {0}
AreOf (p ∷ ps) (v ∷ vs) = (is_of v p.kind ≡ true) × AreOf ps vs
AreOf [] (v ∷ vs) = ⊥
AreOf (p ∷ ps) [] = ⊥
