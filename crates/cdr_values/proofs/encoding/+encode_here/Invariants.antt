use Rattle.std.proofs.Common.{drop}
use Rattle.cdr_values.specs.Kinds.{kind_of}
use Rattle.cdr_values.specs.Values.{value_of}
use Rattle.cdr_values.proofs.Endings.{Ends, each_left, members_left, case_left}
use Rattle.cdr_values.proofs.encoding.+encode_here.Given as goal

-- whatever ends the values that are left ends all of them
abbrev pub invariant-encode_each-loop-value : goal.invariant-encode_each-loop-value
invariant-encode_each-loop-value l =
    Ends l.into (each_left (kind_of l.element) (drop l.value-index l.values)) l.initial.into (each_left (kind_of l.element) l.values)

abbrev pub invariant-encode_members-loop-member : goal.invariant-encode_members-loop-member
invariant-encode_members-loop-member l =
    Ends l.into (members_left l.rest (drop l.member-index l.members)) l.initial.into (members_left l.values l.members)

abbrev pub invariant-encode_case-loop-case : goal.invariant-encode_case-loop-case
invariant-encode_case-loop-case l =
    Ends l.into (case_left (value_of l.member) l.left (drop l.case-index l.cases)) l.initial.into (case_left (value_of l.member) l.index l.cases)
