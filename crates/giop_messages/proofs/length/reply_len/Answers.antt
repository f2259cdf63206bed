use Rattle.std.proofs.Common.{◌∷◌, [], refl, lit<}
use Rattle.std.specs.Int.{w32}
use Rattle.cdr_core.specs.Field.{number}
use Rattle.giop_messages.specs.Message.{reply_of}
use Rattle.giop_messages.specs.Layout.{contexts_fields, body_fields}
use Rattle.giop_messages.proofs.LengthLaws.{ends_then, ends_known, length_is}
use Rattle.giop_messages.proofs.length.reply_len.Goals as goal

pub returns : goal.returns
returns c order id status body len =
    let end = c.behind_contexts-at.result in
    let contexts = contexts_fields c.args.contexts.now in
    let head = ends_known 12 20 (number w32 id ∷ number w32 status ∷ []) (lit< tt) refl in
    let named = ends_then 12 20 end (number w32 id ∷ number w32 status ∷ []) contexts head c.behind_contexts-at.ensures in
    length_is order (reply_of id status c.args.contexts.now body) c.behind_body.result
    (ends_then 12 end c.behind_body.result (number w32 id ∷ number w32 status ∷ contexts) (body_fields body) named
    (c.behind_body.ensures body len))
