use Rattle.std.proofs.Common.{◌≡◌, ◌<◌, ◌^◌, ◌∙◌, ℕ, ap, sym, subst}
use Rattle.cdr_core.specs.Field.{fields_end}
use Rattle.cdr_core.specs.Writing.{Page}
use Rattle.giop_messages.specs.Message as Spec
use Rattle.giop_messages.specs.Spelling.{all_fields}
use Rattle.request_writer.specs.Naming.{with_id}
use Rattle.request_writer.proofs.WholeLaws.{room_within, fields_put}
use Rattle.request_writer.proofs.whole.inner_bytes.Goals as goal

pub put_request-requires : goal.put_request-requires
put_request-requires c =
    let place : c.new-writer.result.place ≡ 12 = ap (λ (p : Page). p.place) c.new-writer.ensures in
    subst (λ (n : ℕ). fields_end n (all_fields (Spec.request (with_id c.args.id c.args.request.now))) < 2 ^ 32) (sym place)
    (room_within c.args.id c.args.request.now c.requires.short)

pub returns : goal.returns
returns c =
    let bytes = c.finish.ensures in
    let view = c.writer.view_is in
    let same : c.finish.result.items ≡ c.put_request.new.into.bytes = cc in
    same ∙ fields_put (with_id c.args.id c.args.request.now) c.new-writer.result c.put_request.new.into c.new-writer.ensures c.in_ok-put_request.ensures
