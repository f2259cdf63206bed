use Rattle.std.proofs.Common.{◌≡◌, drop, map}
use Rattle.idl_types.specs.Views.{operation_of}
use Rattle.idl_types.specs.Names.{names_in, operation_names, with_names}
use Rattle.idl_types.proofs.inheritance.put_names.Given as goal

abbrev pub invariant-loop-operation : goal.invariant-loop-operation
invariant-loop-operation l = with_names (names_in l.names.keys) (operation_names (map operation_of (drop l.operation-index l.operations)))
    ≡ with_names (names_in l.initial.names.keys) (operation_names (map operation_of l.operations))
