use Rattle.std.proofs.Common.{sym, subst}
use Rattle.cdr_values.specs.Kinds.{members_view}
use Rattle.cdr_values.specs.Spelling.{fields_of}
use Rattle.cdr_values.specs.Trees.{words, text}
use Rattle.cdr_values.specs.Values.{value_of}
use Rattle.script_values.specs.Gives.{Gives}
use Rattle.script_values.specs.Operations.{as_items}
use Rattle.dynamic_servants.specs.Replies.{members_from, all_fields}
use Rattle.dynamic_servants.proofs.Spellings.{both_said, body_is}
use Rattle.dynamic_servants.proofs.replies.raised_body.Goals as goal

pub returns : goal.returns
returns c =
    let others = all_fields (members_from 0 (members_view c.args.exception.now.members.items) (as_items (value_of c.args.value.now))) in
    let more = rw (c.as_slice.ensures, c.items_of.ensures) at c.in_ok-put_members.ensures in
    let s = both_said c.new-writer.result c.put_id.new.writer c.put_members.new.writer (fields_of (text c.args.exception.now.id) (words 0)) others c.in_ok-put_id.ensures more in
    let e = body_is c.args.order c.new-writer.result c.put_members.new.writer _ c.new-writer.ensures s in
    subst (λ z. Gives (λ body. body) c.finish.result z) (sym e) c.finish.ensures
