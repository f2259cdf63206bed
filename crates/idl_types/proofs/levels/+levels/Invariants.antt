use Rattle.std.proofs.Common.{◌≡◌, drop}
use Rattle.std.specs.Prelude.{nat_le}
use Rattle.cdr_values.specs.Trees.{members_of, cases_of}
use Rattle.cdr_values.specs.Kinds.{members_view, cases_view}
use Rattle.idl_types.specs.Counting.{levels_of_members, levels_of_cases}
use Rattle.idl_types.proofs.levels.+levels.Given as goal

abbrev pub invariant-are_within_levels-loop-member : goal.invariant-are_within_levels-loop-member
invariant-are_within_levels-loop-member l =
    nat_le (levels_of_members (members_of (members_view (drop l.member-index l.members)))) l.most ≡ nat_le (levels_of_members (members_of (members_view l.members))) l.most

abbrev pub invariant-cases_are_within_levels-loop-case : goal.invariant-cases_are_within_levels-loop-case
invariant-cases_are_within_levels-loop-case l =
    nat_le (levels_of_cases (cases_of (cases_view (drop l.case-index l.cases)))) l.most ≡ nat_le (levels_of_cases (cases_of (cases_view l.cases))) l.most
