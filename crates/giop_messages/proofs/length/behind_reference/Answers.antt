use Rattle.std.proofs.Common.{◌∷◌, ◌++◌, [], length}
use Rattle.std.specs.Int.{w16, w32}
use Rattle.std.specs.List.{flat_map}
use Rattle.cdr_core.specs.Field.{number, string_fields}
use Rattle.cdr_core.specs.Lists.{tagged_fields}
use Rattle.giop_messages.proofs.LengthLaws.{ends_then, ends_u16}
use Rattle.giop_messages.proofs.length.behind_reference.Goals as goal

pub returns : goal.returns
returns c index text len =
    let place = c.args.place in
    let count = length c.args.profiles.now in
    let form = ends_u16 place c.behind.result 2 c.behind.ensures in
    let indexed = ends_then place c.behind.result c.behind_u32-at.result (number w16 2 ∷ []) (number w32 index ∷ []) form (c.behind_u32-at.ensures index) in
    let typed = ends_then place c.behind_u32-at.result c.behind_text.result (number w16 2 ∷ number w32 index ∷ []) (string_fields text) indexed (c.behind_text.ensures text len) in
    let counted = ends_then place c.behind_text.result c.behind_u32.result (number w16 2 ∷ number w32 index ∷ string_fields text) (number w32 count ∷ []) typed (c.behind_u32.ensures count) in
    ends_then place c.behind_u32.result c.behind_tagged_list.result
    (number w16 2 ∷ number w32 index ∷ string_fields text ++ number w32 count ∷ []) (flat_map tagged_fields c.args.profiles.now) counted c.behind_tagged_list.ensures
