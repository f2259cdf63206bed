use Rattle.std.proofs.Common.{◌≡◌, drop}
use Rattle.script_values.specs.Leaves.{less, all_leaves}
use Rattle.cdr_values.specs.Trees.{values_of}
use Rattle.cdr_values.specs.Values.{values_view}
use Rattle.script_values.proofs.leaves.+leaves.Given as goal

abbrev pub invariant-room_after_all-loop-value : goal.invariant-room_after_all-loop-value
invariant-room_after_all-loop-value l =
    less l.left (all_leaves (values_of (values_view (drop l.value-index l.values)))) ≡ less l.room (all_leaves (values_of (values_view l.values)))
