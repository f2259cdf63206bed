use Rattle.std.proofs.Common.{◌≡◌, ◌++◌, map, take}
use Rattle.idl_types.specs.Views.{operation_of}
use Rattle.idl_reader.proofs.interfaces.add_copies.Given as goal

abbrev pub invariant-loop-operation : goal.invariant-loop-operation
invariant-loop-operation l = map operation_of l.found.items ≡ map operation_of l.fn.found.items ++ map operation_of (take l.operation-index l.operations)
