use Rattle.std.proofs.Common.{◌≡◌, drop}
use Rattle.cdr_values.specs.Trees.{members_of, cases_of}
use Rattle.cdr_values.specs.Kinds.{members_view, cases_view}
use Rattle.idl_types.specs.Budget.{left}
use Rattle.idl_types.specs.Counting.{leaves_of_members, leaves_of_cases}
use Rattle.idl_types.proofs.leaves.+spend.Given as goal

abbrev pub invariant-spend_members-loop-member : goal.invariant-spend_members-loop-member
invariant-spend_members-loop-member l =
    left l.rest (leaves_of_members (members_of (members_view (drop l.member-index l.members)))) ≡ left l.budget (leaves_of_members (members_of (members_view l.members)))

abbrev pub invariant-spend_cases-loop-case : goal.invariant-spend_cases-loop-case
invariant-spend_cases-loop-case l =
    left l.rest (leaves_of_cases (cases_of (cases_view (drop l.case-index l.cases)))) ≡ left l.budget (leaves_of_cases (cases_of (cases_view l.cases)))
