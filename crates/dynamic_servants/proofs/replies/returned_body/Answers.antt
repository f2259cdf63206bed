use Rattle.std.proofs.Common.{sym, ap, ◌∙◌, subst, map}
use Rattle.std.specs.Option.{option_copied, option_map}
use Rattle.cdr_values.specs.Kinds.{kind_of}
use Rattle.cdr_values.specs.Values.{value_of, values_view}
use Rattle.idl_types.specs.Views.{param_of}
use Rattle.script_values.specs.Gives.{Gives}
use Rattle.dynamic_servants.specs.Replies.{result_of, outs_from, all_fields, spelled}
use Rattle.dynamic_servants.proofs.Spellings.{all_then, both_said, body_is}
use Rattle.dynamic_servants.proofs.replies.returned_body.Goals as goal

pub returns : goal.returns
returns c =
    let xs = result_of (option_map kind_of c.args.operation.now.result) (option_map value_of (option_copied c.args.value)) in
    let ys = outs_from 0 (map param_of c.args.operation.now.params.items) (values_view c.args.slots.now) in
    let first = rw c.as_ref.ensures.value at c.in_ok-put_result.ensures in
    let more = rw c.as_slice.ensures at c.in_ok-put_outs.ensures in
    let s = both_said c.new-writer.result c.put_result.new.writer c.put_outs.new.writer (all_fields xs) (all_fields ys) first more in
    let e = ap (spelled c.args.order) (all_then xs ys) ∙ body_is c.args.order c.new-writer.result c.put_outs.new.writer _ c.new-writer.ensures s in
    subst (λ z. Gives (λ body. body) c.finish.result z) (sym e) c.finish.ensures
