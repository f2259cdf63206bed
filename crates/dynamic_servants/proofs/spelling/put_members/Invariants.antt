use Rattle.std.proofs.Common.{drop}
use Rattle.cdr_values.specs.Kinds.{members_view}
use Rattle.cdr_values.specs.Values.{values_view}
use Rattle.dynamic_servants.specs.Replies.{all_fields, members_from}
use Rattle.dynamic_servants.proofs.Spellings.{Left}
use Rattle.dynamic_servants.proofs.spelling.put_members.Given as goal

abbrev pub invariant-loop-at : goal.invariant-loop-at
invariant-loop-at l =
    Left l.initial.writer l.writer (all_fields (members_from l.at (members_view (drop l.at l.members)) (values_view l.values)))
    (all_fields (members_from 0 (members_view l.members) (values_view l.values)))
