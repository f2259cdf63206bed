use Rattle.std.proofs.Common.{◌∷◌, ◌++◌, [], refl, lit<}
use Rattle.std.specs.Int.{w8, w32}
use Rattle.cdr_core.specs.Field.{number, run, string_fields}
use Rattle.giop_messages.specs.Message as Spec
use Rattle.giop_messages.specs.Layout.{target_fields, contexts_fields, body_fields}
use Rattle.giop_messages.proofs.LengthLaws.{ends_then, ends_known, length_is}
use Rattle.giop_messages.proofs.length.request_len.Goals as goal

pub returns : goal.returns
returns c order id flags told body sizes len =
    let first = c.behind_key-target.result in
    let second = c.behind_text-named.result in
    let third = c.behind_sized_contexts-at.result in
    let head = number w32 id ∷ number w8 flags ∷ run 1 (0 ∷ 0 ∷ 0 ∷ []) ∷ [] in
    let key = target_fields (Spec.key c.args.key.now) in
    let name = string_fields c.args.operation.now in
    let contexts = contexts_fields told in
    let targeted = ends_then 12 20 first head key (ends_known 12 20 head (lit< tt) refl) (c.behind_key-target.ensures c.args.key.now refl) in
    let called = ends_then 12 first second (head ++ key) name targeted (c.behind_text-named.ensures c.args.operation.now refl) in
    let parts = ends_then 12 second third (head ++ key ++ name) contexts called (c.behind_sized_contexts-at.ensures told sizes) in
    length_is order (Spec.request_of id flags (Spec.key c.args.key.now) c.args.operation.now told body) c.behind_body.result
    (ends_then 12 third c.behind_body.result (head ++ key ++ name ++ contexts) (body_fields body) parts (c.behind_body.ensures body len))
