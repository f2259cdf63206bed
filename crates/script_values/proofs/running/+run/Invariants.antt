use Rattle.std.proofs.Common.{◌≡◌, drop}
use Rattle.script_values.specs.Running.{run}
use Rattle.script_values.specs.Trees.{steps_of}
use Rattle.cdr_values.specs.Values.{values_view}
use Rattle.idl_types.specs.Contents.{things_of}
use Rattle.script_values.specs.Views.{steps_view}
use Rattle.script_values.proofs.running.+run.Given as goal

abbrev pub invariant-run-loop-stmt : goal.invariant-run-loop-stmt
invariant-run-loop-stmt l =
    run l.priority (steps_of (steps_view (things_of l.repository) (drop l.stmt-index l.block))) (values_view l.slots.items)
    ≡ run l.priority (steps_of (steps_view (things_of l.repository) l.block)) (values_view l.initial.slots.items)
