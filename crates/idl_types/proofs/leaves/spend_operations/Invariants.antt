use Rattle.std.proofs.Common.{◌≡◌, map, drop}
use Rattle.std.specs.Prelude.{sum_by}
use Rattle.idl_types.specs.Budget.{left}
use Rattle.idl_types.specs.Counting.{operation_leaves}
use Rattle.idl_types.specs.Views.{operation_of}
use Rattle.idl_types.proofs.leaves.spend_operations.Given as goal

abbrev pub invariant-loop-operation : goal.invariant-loop-operation
invariant-loop-operation l = left l.rest (sum_by operation_leaves (map operation_of (drop l.operation-index l.operations))) ≡ left l.budget (sum_by operation_leaves (map operation_of l.operations))
