use Rattle.std.proofs.Common.{◌≡◌, List, length, sym, ap, ◌∙◌, subst}
use Rattle.orb_base.specs.Tagged.{Context}
use Rattle.giop_messages.specs.Message as Spec
use Rattle.giop_messages.specs.Layout.{target_fields}
use Rattle.giop_messages.specs.Spelling.{spelled}
use Rattle.giop_messages.specs.Lengths.{held}
use Rattle.giop_messages.proofs.LengthLaws.{length_is, ends_same, cancel_len, locate_len, located_len, close_len, error_len}
use Rattle.giop_messages.proofs.length.message_len.Goals as goal

pub returns-in-Request : goal.returns-in-Request
returns-in-Request c order = rw c.in-Request.is (length_is order (Spec.request c.in-Request.request) c.whole_request_len.result c.whole_request_len.ensures)

pub returns-in-Reply : goal.returns-in-Reply
returns-in-Reply c order =
    let r = c.in-Reply.reply in
    let contexts_is : c.as_slice.result.now ≡ r.contexts = c.as_slice.ensures ∙ ap (λ (y : Spec.Reply). y.contexts) c.reply.view_is in
    let len : length r.body ≡ c.len.result = ap (λ (y : Spec.Reply). length y.body) (sym c.reply.view_is) ∙ sym c.len.ensures in
    let P : List Context → Type 0 = λ cs. c.reply_len.result ≡ held (length (spelled order (Spec.reply_of r.id r.status cs r.body))) in
    rw c.in-Reply.is (subst P contexts_is (c.reply_len.ensures order r.id r.status r.body len))

pub returns-in-Cancel : goal.returns-in-Cancel
returns-in-Cancel c order = rw c.in-Cancel.is (cancel_len order _)

pub returns-in-Locate : goal.returns-in-Locate
returns-in-Locate c order =
    let l = c.in-Locate.locate in
    rw c.in-Locate.is (locate_len order l c.behind_target.result
    (ends_same 16 c.behind_target.result _ (target_fields l.target) (ap (λ (y : Spec.Locate). target_fields y.target) c.locate.view_is) c.behind_target.ensures))

pub returns-in-Located : goal.returns-in-Located
returns-in-Located c order = rw c.in-Located.is (located_len order _)

pub returns-in-Close : goal.returns-in-Close
returns-in-Close c order = rw c.in-Close.is (close_len order)

pub returns-in-Error : goal.returns-in-Error
returns-in-Error c order = rw c.in-Error.is (error_len order)
