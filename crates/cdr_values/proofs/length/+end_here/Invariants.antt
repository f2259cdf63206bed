use Rattle.std.proofs.Common.{drop}
use Rattle.cdr_values.specs.Kinds.{kind_of}
use Rattle.cdr_values.specs.Values.{value_of}
use Rattle.cdr_values.proofs.Endings.{each_left, members_left, case_left}
use Rattle.cdr_values.proofs.Ending.{Left}
use Rattle.cdr_values.proofs.length.+end_here.Given as goal

-- whatever ends the values that are left ends all of them
abbrev pub invariant-end_each-loop-value : goal.invariant-end_each-loop-value
invariant-end_each-loop-value l =
    Left l.at (each_left (kind_of l.element) (drop l.value-index l.values)) l.initial.at (each_left (kind_of l.element) l.values)

abbrev pub invariant-end_members-loop-member : goal.invariant-end_members-loop-member
invariant-end_members-loop-member l =
    Left l.at (members_left l.rest (drop l.member-index l.members)) l.initial.at (members_left l.values l.members)

abbrev pub invariant-end_case-loop-case : goal.invariant-end_case-loop-case
invariant-end_case-loop-case l =
    Left l.place (case_left (value_of l.member) l.left (drop l.case-index l.cases)) l.place (case_left (value_of l.member) l.index l.cases)
