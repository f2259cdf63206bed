use Rattle.std.proofs.Common.{◌≡◌, List, drop, map}
use Rattle.idl_types.specs.Things.{Thing}
use Rattle.idl_types.specs.Views.{operation_of}
use Rattle.script_checks.specs.Servants.{all_there}
use Rattle.script_checks.specs.Done.{method_view}
use Rattle.script_checks.proofs.servants.are_there.Given as goal

abbrev pub invariant-loop-at : goal.invariant-loop-at
invariant-loop-at l =
    (ts : List Thing) → all_there l.at (map operation_of (drop l.at l.operations)) (map (method_view ts) l.methods)
    ≡ all_there 0 (map operation_of l.operations) (map (method_view ts) l.methods)
