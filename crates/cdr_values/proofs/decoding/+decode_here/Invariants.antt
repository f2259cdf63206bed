use Rattle.std.proofs.Common.{◌≡◌, ◌-◌, Some, drop}
use Rattle.cdr_values.specs.Reading.{times, read, read_members, read_chosen, with_front}
use Rattle.cdr_values.specs.Kinds.{kind_of, members_view, cases_view}
use Rattle.cdr_values.specs.Trees.{members_of, cases_of}
use Rattle.cdr_values.specs.Values.{values_view}
use Rattle.cdr_values.proofs.decoding.+decode_here.Given as goal

abbrev pub invariant-decode_members-loop-member : goal.invariant-decode_members-loop-member
invariant-decode_members-loop-member l =
    with_front (values_view l.values.items) (read_members (members_of (members_view (drop l.member-index l.members))) l.reader) ≡ read_members (members_of (members_view l.members)) l.initial.reader

abbrev pub invariant-decode_times-loop : goal.invariant-decode_times-loop
invariant-decode_times-loop l =
    with_front (values_view l.values.items) (times (read (kind_of l.kind)) (l.n - l.counter) l.reader) ≡ times (read (kind_of l.kind)) l.n l.initial.reader

abbrev pub invariant-decode_case-loop-case : goal.invariant-decode_case-loop-case
invariant-decode_case-loop-case l =
    read_chosen (cases_of (cases_view (drop l.case-index l.cases))) (Some l.left) l.reader ≡ read_chosen (cases_of (cases_view l.cases)) (Some l.index) l.initial.reader
