use Rattle.std.proofs.Common.{◌≡◌, drop, is_some}
use Rattle.cdr_values.specs.Kinds.{kind_of, members_view, cases_view}
use Rattle.cdr_values.specs.Trees.{values_of, members_of, cases_of, value, no_values}
use Rattle.cdr_values.specs.Values.{value_of, values_view}
use Rattle.cdr_values.specs.Choice.{nth_kind}
use Rattle.cdr_values.specs.Spelling.{fields_each, fields_members, fields_chosen}
use Rattle.cdr_values.proofs.fitting.+fits_here.Given as goal

abbrev pub invariant-fits_each-loop-value : goal.invariant-fits_each-loop-value
invariant-fits_each-loop-value l =
    is_some (fields_each (values_of (values_view (drop l.value-index l.values))) (kind_of l.element))
    ≡ is_some (fields_each (values_of (values_view l.values)) (kind_of l.element))

abbrev pub invariant-fits_members-loop-member : goal.invariant-fits_members-loop-member
invariant-fits_members-loop-member l =
    is_some (fields_members (values_of (values_view l.rest)) (members_of (members_view (drop l.member-index l.members))))
    ≡ is_some (fields_members (values_of (values_view l.values)) (members_of (members_view l.members)))

abbrev pub invariant-fits_case-loop-case : goal.invariant-fits_case-loop-case
invariant-fits_case-loop-case l =
    is_some (fields_chosen (value (value_of l.member) no_values) (nth_kind l.left (cases_of (cases_view (drop l.case-index l.cases)))))
    ≡ is_some (fields_chosen (value (value_of l.member) no_values) (nth_kind l.index (cases_of (cases_view l.cases))))
