-- Look-ups in the things that are declared: CORBA 3.0.3, sections 3.8 and 10.6.
use Rattle.std.specs.Prelude.{◌≡◌, ◌⊎◌, ℕ, Bool, IsTrue, List, [], ◌∷◌, Option, Some, None, find, position, is_some, codes}
use Rattle.std.specs.Option.{option_and_then, option_map_or}
use Rattle.std.specs.List.{list_any}
use Rattle.std.specs.Str.{bytes_eq}
use Rattle.cdr_values.specs.Trees.{Name, Names}
use Rattle.idl_types.specs.Things.{OperationView, ConstantView, TypeView, ExceptionView, InterfaceView, Thing, constant, named, exception, interface, id_of, operations_of}

-- whether a thing has this id
abbrev pub has_id : Name → Thing → Bool
has_id id t = bytes_eq id (id_of t)

-- the index of the thing of an id
abbrev pub place_named : List Thing → Name → Option ℕ
place_named ts id = position (has_id id) ts

-- the thing of an id
abbrev pub thing_named : List Thing → Name → Option Thing
thing_named ts id = find (has_id id) ts

-- a thing that is a constant
abbrev pub as_constant : Thing → Option ConstantView
as_constant (constant c) = Some c
as_constant t = None

-- a thing that is a named type
abbrev pub as_type : Thing → Option TypeView
as_type (named t) = Some t
as_type t = None

-- a thing that is an exception
abbrev pub as_exception : Thing → Option ExceptionView
as_exception (exception e) = Some e
as_exception t = None

-- a thing that is an interface
abbrev pub as_interface : Thing → Option InterfaceView
as_interface (interface i) = Some i
as_interface t = None

-- the constant of an id
abbrev pub constant_named : List Thing → Name → Option ConstantView
constant_named ts id = option_and_then as_constant (thing_named ts id)

-- the named type of an id
abbrev pub type_named : List Thing → Name → Option TypeView
type_named ts id = option_and_then as_type (thing_named ts id)

-- the exception of an id
abbrev pub exception_named : List Thing → Name → Option ExceptionView
exception_named ts id = option_and_then as_exception (thing_named ts id)

-- the interface of an id
abbrev pub interface_named : List Thing → Name → Option InterfaceView
interface_named ts id = option_and_then as_interface (thing_named ts id)

-- whether an operation has this name
abbrev pub has_name : Name → OperationView → Bool
has_name name o = bytes_eq name o.name

-- the operation of a name among those of a thing
abbrev pub operation_in : Name → Thing → Option OperationView
operation_in name t = find (has_name name) (operations_of t)

-- the operation of a name in the interface of an id
abbrev pub operation_named : List Thing → Name → Name → Option OperationView
operation_named ts id name = option_and_then (operation_in name) (thing_named ts id)

-- the id that every interface is one of
abbrev pub object_id : Name
object_id = codes "IDL:omg.org/CORBA/Object:1.0"

-- whether there is an interface of an id
abbrev pub is_interface : List Thing → Name → Bool
is_interface ts id = is_some (interface_named ts id)

-- the bases of the interface of an id; none where there is no such interface
abbrev pub bases_named : List Thing → Name → Names
bases_named ts id = option_map_or (λ i. i.bases) (interface_named ts id) []

-- whether the interface of an id names the other as a base
abbrev pub has_base : List Thing → Name → Name → Bool
has_base ts id other = list_any (bytes_eq other) (bases_named ts id)

-- each id names the next one as a base, from the one over the path to the other
abbrev pub Leads : List Thing → Name → Names → Name → Type 0
Leads ts id [] other = id ≡ other
Leads ts id (next ∷ path) other = IsTrue (has_base ts id next) × Leads ts next path other

-- bases lead from the one interface to the other
pub record Descends (ts : List Thing) (id other : Name) : Type 0 where
  pub path : Names
  pub leads : Leads ts id path other

-- an interface is an object, and what bases lead to, itself first
pub record IsA (ts : List Thing) (id other : Name) : Type 0 where
  pub declared : IsTrue (is_interface ts id)
  pub kin : (other ≡ object_id) ⊎ Descends ts id other
