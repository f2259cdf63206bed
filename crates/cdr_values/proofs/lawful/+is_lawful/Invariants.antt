use Rattle.std.proofs.Common.{◌≡◌, drop}
use Rattle.cdr_values.specs.Kinds.{members_view, cases_view}
use Rattle.cdr_values.specs.Trees.{members_of, cases_of}
use Rattle.cdr_values.specs.Lawful.{are_lawful, cases_are_lawful}
use Rattle.cdr_values.proofs.lawful.+is_lawful.Given as goal

abbrev pub invariant-are_lawful-loop-member : goal.invariant-are_lawful-loop-member
invariant-are_lawful-loop-member l =
    are_lawful (members_of (members_view (drop l.member-index l.members))) ≡ are_lawful (members_of (members_view l.members))

abbrev pub invariant-cases_are_lawful-loop-case : goal.invariant-cases_are_lawful-loop-case
invariant-cases_are_lawful-loop-case l =
    cases_are_lawful (cases_of (cases_view (drop l.case-index l.cases))) ≡ cases_are_lawful (cases_of (cases_view l.cases))
