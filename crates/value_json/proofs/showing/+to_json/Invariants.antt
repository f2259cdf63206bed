use Rattle.std.proofs.Common.{◌≡◌, drop, map}
use Rattle.serde_json.specs.Data.{no_members}
use Rattle.serde_json.specs.View.{view, members_view as json_members}
use Rattle.cdr_values.specs.Choice.{nth_kind}
use Rattle.cdr_values.specs.Kinds.{kind_of, members_view, cases_view}
use Rattle.cdr_values.specs.Trees.{values_of, members_of, cases_of, value, no_values}
use Rattle.cdr_values.specs.Values.{value_of, values_view}
use Rattle.value_json.specs.Shown.{ahead, shown_each, shown_members, shown_chosen}
use Rattle.value_json.proofs.showing.+to_json.Given as goal

abbrev pub invariant-each_json-loop-value : goal.invariant-each_json-loop-value
invariant-each_json-loop-value l =
    ahead (map view l.list.items) (shown_each (values_of (values_view (drop l.value-index l.values))) (kind_of l.element))
    ≡ shown_each (values_of (values_view l.values)) (kind_of l.element)

abbrev pub invariant-object_json-loop-member : goal.invariant-object_json-loop-member
invariant-object_json-loop-member l =
    shown_members (values_of (values_view l.rest)) (members_of (members_view (drop l.member-index l.members))) (json_members l.object.entries)
    ≡ shown_members (values_of (values_view l.values)) (members_of (members_view l.members)) no_members

abbrev pub invariant-nth_json-loop-case : goal.invariant-nth_json-loop-case
invariant-nth_json-loop-case l =
    shown_chosen (value (value_of l.member) no_values) (nth_kind l.left (cases_of (cases_view (drop l.case-index l.cases))))
    ≡ shown_chosen (value (value_of l.member) no_values) (nth_kind l.index (cases_of (cases_view l.cases)))
