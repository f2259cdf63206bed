use Rattle.std.proofs.Common.{◌≡◌, Some, drop}
use Rattle.serde_json.specs.View.{items_view, members_view as json_members}
use Rattle.cdr_values.specs.Kinds.{kind_of, members_view, cases_view}
use Rattle.cdr_values.specs.Trees.{members_of, cases_of}
use Rattle.cdr_values.specs.Values.{values_view}
use Rattle.value_json.specs.Meant.{meant, meant_members, meant_choice, each_in}
use Rattle.value_json.proofs.Loops.{onto}
use Rattle.value_json.proofs.reading.+from_json.Given as goal

abbrev pub invariant-items_from-loop-json : goal.invariant-items_from-loop-json
invariant-items_from-loop-json l =
    onto (values_view l.values.items) (each_in (meant (kind_of l.element)) (items_view (drop l.json-index l.list)))
    ≡ each_in (meant (kind_of l.element)) (items_view l.list)

abbrev pub invariant-members_from-loop-member : goal.invariant-members_from-loop-member
invariant-members_from-loop-member l =
    onto (values_view l.values.items) (meant_members (members_of (members_view (drop l.member-index l.members))) (json_members l.object.entries))
    ≡ meant_members (members_of (members_view l.members)) (json_members l.object.entries)

abbrev pub invariant-nth_from-loop-case : goal.invariant-nth_from-loop-case
invariant-nth_from-loop-case l =
    meant_choice (cases_of (cases_view (drop l.case-index l.cases))) (Some l.left) l.number (json_members l.object.entries)
    ≡ meant_choice (cases_of (cases_view l.cases)) (Some l.index) l.number (json_members l.object.entries)
