use Rattle.std.proofs.Common.{◌≡◌, ◌∷◌, [], length, sym, ap, ◌∙◌}
use Rattle.std.specs.Int.{w32}
use Rattle.cdr_core.specs.Field.{number, octets_fields}
use Rattle.orb_base.specs.Tagged.{Context}
use Rattle.cdr_core.specs.Lists.{context_fields}
use Rattle.giop_messages.proofs.LengthLaws.{ends_then, ends_next}
use Rattle.giop_messages.proofs.length.behind_context_list.Goals as goal

pub loop-context-preserved : goal.loop-context-preserved
loop-context-preserved c =
    let x = c.context-item.result in
    let len : length x.bytes ≡ c.len.result = ap (λ (y : Context). length y.bytes) (sym c.context.view_is) ∙ sym c.len.ensures in
    ends_next context_fields c.args.place c.loop-context.at c.behind_octets-at.result c.args.list.now c.loop-context.context-index x c.loop-context-test.true c.context-item.is
    c.loop-context.invariant
    (ends_then c.loop-context.at c.behind_u32.result c.behind_octets-at.result (number w32 x.id ∷ []) (octets_fields x.bytes)
    (c.behind_u32.ensures x.id) (c.behind_octets-at.ensures x.bytes len))
