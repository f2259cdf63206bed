use Rattle.std.proofs.Common.{◌≡◌, drop, map}
use Rattle.serde_json.specs.View.{view}
use Rattle.cdr_values.specs.Trees.{scalar, size1, unsigned, values_of}
use Rattle.cdr_values.specs.Values.{values_view}
use Rattle.value_json.specs.Shown.{ahead, shown_each}
use Rattle.value_json.proofs.showing.octets_json.Given as goal

abbrev pub invariant-loop-value : goal.invariant-loop-value
invariant-loop-value l =
    ahead (map view l.list.items) (shown_each (values_of (values_view (drop l.value-index l.values))) (scalar (unsigned size1)))
    ≡ shown_each (values_of (values_view l.values)) (scalar (unsigned size1))
