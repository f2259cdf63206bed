use Rattle.std.proofs.Common.{◌≡◌, map, take}
use Rattle.idl_types.specs.Views.{operation_of}
use Rattle.idl_types.specs.Names.{names_in, operation_names}
use Rattle.idl_types.proofs.held.names_of.Given as goal

abbrev pub invariant-loop-operation : goal.invariant-loop-operation
invariant-loop-operation l = names_in l.names.keys ≡ operation_names (map operation_of (take l.operation-index l.operations))
