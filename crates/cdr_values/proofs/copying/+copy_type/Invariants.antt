use Rattle.std.proofs.Common.{◌≡◌, take}
use Rattle.cdr_values.specs.Kinds.{members_view, cases_view}
use Rattle.cdr_values.proofs.copying.+copy_type.Given as goal

abbrev pub invariant-copy_members-loop-member : goal.invariant-copy_members-loop-member
invariant-copy_members-loop-member l = members_view l.copies.items ≡ members_view (take l.member-index l.members)

abbrev pub invariant-copy_cases-loop-case : goal.invariant-copy_cases-loop-case
invariant-copy_cases-loop-case l = cases_view l.copies.items ≡ cases_view (take l.case-index l.cases)
