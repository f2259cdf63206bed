use Rattle.std.proofs.Common.{sym, ap, ◌∙◌, subst}
use Rattle.cdr_values.specs.Spelling.{fields_of}
use Rattle.cdr_values.specs.Trees.{scalar, boolean, truth}
use Rattle.script_values.specs.Gives.{Gives}
use Rattle.dynamic_servants.specs.Replies.{spelled}
use Rattle.dynamic_servants.proofs.Spellings.{one_field_set, body_is}
use Rattle.dynamic_servants.proofs.replies.truth_body.Goals as goal

pub returns : goal.returns
returns c =
    let e = ap (spelled c.args.order) (one_field_set (fields_of (truth c.args.holds) (scalar boolean))) ∙ body_is c.args.order c.new-writer.result c.put_truth.new.writer _ c.new-writer.ensures c.in_ok-put_truth.ensures in
    subst (λ z. Gives (λ body. body) c.finish.result z) (sym e) c.finish.ensures
