use Rattle.std.proofs.Common.{◌≡◌, ◌∷◌, [], length, sym, ap, ◌∙◌}
use Rattle.std.specs.Int.{w32}
use Rattle.cdr_core.specs.Field.{number, octets_fields}
use Rattle.orb_base.specs.Tagged.{Tagged}
use Rattle.cdr_core.specs.Lists.{tagged_fields}
use Rattle.giop_messages.proofs.LengthLaws.{ends_then, ends_next}
use Rattle.giop_messages.proofs.length.behind_tagged_list.Goals as goal

pub loop-tagged-preserved : goal.loop-tagged-preserved
loop-tagged-preserved c =
    let x = c.tagged-item.result in
    let len : length x.bytes ≡ c.len.result = ap (λ (y : Tagged). length y.bytes) (sym c.tagged.view_is) ∙ sym c.len.ensures in
    ends_next tagged_fields c.args.place c.loop-tagged.at c.behind_octets-at.result c.args.list.now c.loop-tagged.tagged-index x c.loop-tagged-test.true c.tagged-item.is
    c.loop-tagged.invariant
    (ends_then c.loop-tagged.at c.behind_u32.result c.behind_octets-at.result (number w32 x.tag ∷ []) (octets_fields x.bytes)
    (c.behind_u32.ensures x.tag) (c.behind_octets-at.ensures x.bytes len))
