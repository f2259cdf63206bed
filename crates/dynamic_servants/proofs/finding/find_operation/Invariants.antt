use Rattle.std.proofs.Common.{◌≡◌, drop, map}
use Rattle.idl_types.specs.Views.{operation_of}
use Rattle.script_checks.specs.Methods.{find_operation}
use Rattle.dynamic_servants.proofs.finding.find_operation.Given as goal

abbrev pub invariant-loop-at : goal.invariant-loop-at
invariant-loop-at l = find_operation l.at (map operation_of (drop l.at l.operations)) l.name ≡ find_operation 0 (map operation_of l.operations) l.name
