use Rattle.std.proofs.Common.{◌≡◌, List, drop, map}
use Rattle.idl_types.specs.Things.{Thing}
use Rattle.script_checks.specs.Done.{method_view}
use Rattle.dynamic_servants.specs.Outcome.{work_at}
use Rattle.dynamic_servants.proofs.finding.work_at.Given as goal

abbrev pub invariant-loop-method : goal.invariant-loop-method
invariant-loop-method l =
    (ts : List Thing) → work_at (map (method_view ts) (drop l.method-index l.methods)) l.operation ≡ work_at (map (method_view ts) l.methods) l.operation
