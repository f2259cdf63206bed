use Rattle.std.proofs.Common.{◌≡◌, true, map, take}
use Rattle.std.specs.Str.{bytes_eq}
use Rattle.cdr_values.specs.Lawful.{differ}
use Rattle.idl_types.specs.Views.{operation_of}
use Rattle.idl_types.specs.Names.{names_in, operation_names}
use Rattle.idl_types.proofs.soundness.operations_differ.Given as goal

abbrev pub invariant-loop-operation : goal.invariant-loop-operation
invariant-loop-operation l = (names_in l.names.keys ≡ operation_names (map operation_of (take l.operation-index l.operations)))
    × (differ bytes_eq (operation_names (map operation_of (take l.operation-index l.operations))) ≡ true)
