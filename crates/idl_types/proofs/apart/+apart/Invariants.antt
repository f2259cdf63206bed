use Rattle.std.proofs.Common.{◌≡◌, drop}
use Rattle.cdr_values.specs.Trees.{members_of, cases_of}
use Rattle.cdr_values.specs.Kinds.{members_view, cases_view}
use Rattle.idl_types.specs.Apart.{parts_are_told_apart, cases_are_told_apart}
use Rattle.idl_types.proofs.apart.+apart.Given as goal

abbrev pub invariant-parts_are_told_apart-loop-member : goal.invariant-parts_are_told_apart-loop-member
invariant-parts_are_told_apart-loop-member l =
    parts_are_told_apart (members_of (members_view (drop l.member-index l.members))) ≡ parts_are_told_apart (members_of (members_view l.members))

abbrev pub invariant-cases_are_told_apart-loop-case : goal.invariant-cases_are_told_apart-loop-case
invariant-cases_are_told_apart-loop-case l =
    cases_are_told_apart (cases_of (cases_view (drop l.case-index l.cases))) ≡ cases_are_told_apart (cases_of (cases_view l.cases))
