use Rattle.std.proofs.Common.{◌≡◌, ◌++◌, Some, drop, replicate}
use Rattle.cdr_values.specs.Kinds.{kind_of, members_view, cases_view}
use Rattle.cdr_values.specs.Trees.{members_of, cases_of}
use Rattle.cdr_values.specs.Values.{values_view}
use Rattle.dynamic_servants.specs.Zeros.{zero_of, zeros_of, zero_case}
use Rattle.dynamic_servants.proofs.zeros.+zero.Given as goal

abbrev pub invariant-zero_times-loop : goal.invariant-zero_times-loop
invariant-zero_times-loop l = values_view l.values.items ≡ replicate l.counter (zero_of (kind_of l.kind))

abbrev pub invariant-zero_members-loop-member : goal.invariant-zero_members-loop-member
invariant-zero_members-loop-member l =
    values_view l.values.items ++ zeros_of (members_of (members_view (drop l.member-index l.members))) ≡ zeros_of (members_of (members_view l.members))

abbrev pub invariant-zero_at-loop-case : goal.invariant-zero_at-loop-case
invariant-zero_at-loop-case l =
    zero_case (cases_of (cases_view (drop l.case-index l.cases))) (Some l.left) ≡ zero_case (cases_of (cases_view l.cases)) (Some l.index)
