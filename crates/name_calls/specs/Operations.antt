-- The operations of a name service, by their names: those of its interface, and those of every object (CORBA 3.0.3, chapter 4,
-- object reference operations).
use Rattle.std.specs.Prelude.{ℕ, List, codes, Option, Some, None, if◌then◌else◌}
use Rattle.std.specs.Str.{bytes_eq}
use Rattle.name_calls.specs.declared.operation.Operation.{Operation}
use Rattle.name_calls.specs.declared.operation.Operation.TheVariants.{IsA, NonExistent, Bind, Rebind, Resolve, Unbind, Next, Size}

-- the operation of a name
abbrev pub operation_named : List ℕ → Option Operation
operation_named name =
    if bytes_eq name (codes "_is_a") then Some IsA
    else if bytes_eq name (codes "_non_existent") then Some NonExistent
    else if bytes_eq name (codes "bind") then Some Bind
    else if bytes_eq name (codes "rebind") then Some Rebind
    else if bytes_eq name (codes "resolve") then Some Resolve
    else if bytes_eq name (codes "unbind") then Some Unbind
    else if bytes_eq name (codes "next") then Some Next
    else if bytes_eq name (codes "size") then Some Size
    else None
