use Rattle.std.proofs.Common.{drop, map}
use Rattle.cdr_values.specs.Values.{values_view}
use Rattle.idl_types.specs.Views.{param_of}
use Rattle.dynamic_servants.specs.Replies.{all_fields, outs_from}
use Rattle.dynamic_servants.proofs.Spellings.{Left}
use Rattle.dynamic_servants.proofs.spelling.put_outs.Given as goal

abbrev pub invariant-loop-at : goal.invariant-loop-at
invariant-loop-at l =
    Left l.initial.writer l.writer (all_fields (outs_from l.at (map param_of (drop l.at l.params)) (values_view l.slots)))
    (all_fields (outs_from 0 (map param_of l.params) (values_view l.slots)))
