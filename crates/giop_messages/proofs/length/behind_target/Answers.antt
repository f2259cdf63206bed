use Rattle.std.proofs.Common.{◌≡◌, ◌∷◌, [], length, sym, ap, ◌∙◌}
use Rattle.std.specs.Int.{w16, w32}
use Rattle.cdr_core.specs.Field.{number, octets_fields}
use Rattle.orb_base.specs.Tagged.{Tagged}
use Rattle.giop_messages.proofs.LengthLaws.{ends_then, ends_u16}
use Rattle.giop_messages.proofs.length.behind_target.Goals as goal

pub returns-in-Profile : goal.returns-in-Profile
returns-in-Profile c =
    let t = c.in-Profile.tagged in
    let len : length t.bytes ≡ c.len-in-Profile.result = ap (λ (y : Tagged). length y.bytes) (sym c.tagged.view_is) ∙ sym c.len-in-Profile.ensures in
    let form = ends_u16 c.args.place c.behind-in-Profile.result 1 c.behind-in-Profile.ensures in
    let tag = ends_then c.args.place c.behind-in-Profile.result c.behind_u32.result (number w16 1 ∷ []) (number w32 t.tag ∷ []) form (c.behind_u32.ensures t.tag) in
    rw c.in-Profile.is (ends_then c.args.place c.behind_u32.result c.behind_octets-in-Profile.result (number w16 1 ∷ number w32 t.tag ∷ []) (octets_fields t.bytes)
    tag (c.behind_octets-in-Profile.ensures t.bytes len))

pub returns-in-Addressing : goal.returns-in-Addressing
returns-in-Addressing c =
    let a = c.in-Addressing in
    let ends = rw c.as_slice.ensures at (c.behind_reference.ensures a.index a.type_id (sym c.len-in-Addressing.ensures)) in
    rw c.in-Addressing.is ends
