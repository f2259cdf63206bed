use Rattle.std.proofs.Common.{◌≡◌, List, drop, map}
use Rattle.idl_types.specs.Things.{Thing}
use Rattle.script_checks.specs.Methods.{has_method}
use Rattle.script_checks.specs.Done.{method_view}
use Rattle.script_checks.proofs.methods.has_method.Given as goal

abbrev pub invariant-loop-method : goal.invariant-loop-method
invariant-loop-method l =
    (ts : List Thing) → has_method (map (method_view ts) (drop l.method-index l.methods)) l.operation
    ≡ has_method (map (method_view ts) l.methods) l.operation
