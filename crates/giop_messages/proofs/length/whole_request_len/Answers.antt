use Rattle.std.proofs.Common.{◌≡◌, ◌∷◌, ◌++◌, [], length, refl, sym, ap, ◌∙◌, lit<}
use Rattle.std.specs.Int.{w8, w32}
use Rattle.cdr_core.specs.Field.{number, run, string_fields}
use Rattle.giop_messages.specs.Message as Spec
use Rattle.giop_messages.specs.Layout.{target_fields, contexts_fields, body_fields}
use Rattle.giop_messages.proofs.LengthLaws.{ends_then, ends_same, ends_known}
use Rattle.giop_messages.proofs.length.whole_request_len.Goals as goal

pub returns : goal.returns
returns c =
    let r = c.args.request.now in
    let first = c.behind_target-target.result in
    let second = c.behind_text-operation.result in
    let third = c.behind_contexts-contexts.result in
    let head = number w32 r.id ∷ number w8 r.flags ∷ run 1 (0 ∷ 0 ∷ 0 ∷ []) ∷ [] in
    let view = c.request.view_is in
    let contexts_is : c.as_slice.result.now ≡ r.contexts = c.as_slice.ensures ∙ ap (λ (y : Spec.Request). y.contexts) view in
    let name_is : length r.operation ≡ c.len.result = ap (λ (y : Spec.Request). length y.operation) (sym view) ∙ sym c.len.ensures in
    let body_is : length r.body ≡ c.len-2.result = ap (λ (y : Spec.Request). length y.body) (sym view) ∙ sym c.len-2.ensures in
    let target = ends_same 20 first _ (target_fields r.target) (ap (λ (y : Spec.Request). target_fields y.target) view) c.behind_target-target.ensures in
    let contexts = ends_same second third (contexts_fields c.as_slice.result.now) (contexts_fields r.contexts) (ap contexts_fields contexts_is) c.behind_contexts-contexts.ensures in
    let targeted = ends_then 12 20 first head (target_fields r.target) (ends_known 12 20 head (lit< tt) refl) target in
    let called = ends_then 12 first second (head ++ target_fields r.target) (string_fields r.operation) targeted (c.behind_text-operation.ensures r.operation name_is) in
    let named = ends_then 12 second third (head ++ target_fields r.target ++ string_fields r.operation) (contexts_fields r.contexts) called contexts in
    ends_then 12 third c.behind_body.result (head ++ target_fields r.target ++ string_fields r.operation ++ contexts_fields r.contexts) (body_fields r.body)
    named (c.behind_body.ensures r.body body_is)
