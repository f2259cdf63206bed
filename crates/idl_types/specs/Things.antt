-- What an IDL file declares, as plain data: CORBA 3.0.3, chapter 3.
use Rattle.std.specs.Prelude.{Bool, List, [], Option}
use Rattle.cdr_values.specs.Trees.{Name, Names, Kind, Value}
use Rattle.idl_types.specs.declared.way.Way.{Way}

-- a parameter: its way, its name and its type
pub record ParamView : Type 0 where
  pub way : Way
  pub name : Name
  pub kind : Kind

-- an operation: no result is `void`
pub record OperationView : Type 0 where
  pub name : Name
  pub oneway : Bool
  pub result : Option Kind
  pub params : List ParamView
  pub raises : Names

-- a constant by its id
pub record ConstantView : Type 0 where
  pub id : Name
  pub kind : Kind
  pub value : Value

-- a type by its id
pub record TypeView : Type 0 where
  pub id : Name
  pub kind : Kind

-- an exception by its id
pub record ExceptionView : Type 0 where
  pub id : Name
  pub members : List (Name × Kind)

-- an interface by its id: the ids of its bases, and its operations, the inherited ones first
pub record InterfaceView : Type 0 where
  pub id : Name
  pub bases : Names
  pub operations : List OperationView

-- a declared thing
pub data Thing : Type 0 where
  constant : ConstantView → Thing
  named : TypeView → Thing
  exception : ExceptionView → Thing
  interface : InterfaceView → Thing

-- the id of a thing
abbrev pub id_of : Thing → Name
id_of (constant c) = c.id
id_of (named t) = t.id
id_of (exception e) = e.id
id_of (interface i) = i.id

-- the bases of a thing: only an interface has any
abbrev pub bases_of : Thing → Names
bases_of (interface i) = i.bases
bases_of t = []

-- the operations of a thing: only an interface has any
abbrev pub operations_of : Thing → List OperationView
operations_of (interface i) = i.operations
operations_of t = []
