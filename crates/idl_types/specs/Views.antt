-- The plain things that declarations stand for.
use Rattle.std.specs.Prelude.{map}
use Rattle.std.specs.Option.{option_map}
use Rattle.cdr_values.specs.Kinds.{kind_of, members_view}
use Rattle.cdr_values.specs.Values.{value_of}
use Rattle.idl_types.specs.declared.param.Param.{Param}
use Rattle.idl_types.specs.declared.operation.Operation.{Operation}
use Rattle.idl_types.specs.declared.constant.Constant.{Constant}
use Rattle.idl_types.specs.declared.named_type.NamedType.{NamedType}
use Rattle.idl_types.specs.declared.exception.Exception.{Exception}
use Rattle.idl_types.specs.declared.interface.Interface.{Interface}
use Rattle.idl_types.specs.declared.declaration.Declaration.{Declaration}
use Rattle.idl_types.specs.declared.declaration.Declaration.TheVariants as declared
use Rattle.idl_types.specs.Things.{ParamView, OperationView, ConstantView, TypeView, ExceptionView, InterfaceView, Thing, constant, named, exception, interface}

-- a parameter
abbrev pub param_of : Param → ParamView
param_of p = record { way = p.way; name = p.name; kind = kind_of p.kind }

-- an operation
abbrev pub operation_of : Operation → OperationView
operation_of o = record { name = o.name; oneway = o.oneway; result = option_map kind_of o.result; params = map param_of o.params.items; raises = o.raises.items }

-- a constant
abbrev pub constant_of : Constant → ConstantView
constant_of c = record { id = c.id; kind = kind_of c.kind; value = value_of c.value }

-- a named type
abbrev pub type_of : NamedType → TypeView
type_of t = record { id = t.id; kind = kind_of t.kind }

-- an exception
abbrev pub exception_of : Exception → ExceptionView
exception_of e = record { id = e.id; members = members_view e.members.items }

-- an interface
abbrev pub interface_of : Interface → InterfaceView
interface_of i = record { id = i.id; bases = i.bases.items; operations = map operation_of i.operations.items }

-- a declaration
abbrev pub thing_of : Declaration → Thing
thing_of (declared.Constant c) = constant (constant_of c)
thing_of (declared.Named t) = named (type_of t)
thing_of (declared.Exception e) = exception (exception_of e)
thing_of (declared.Interface i) = interface (interface_of i)
