use Rattle.std.proofs.Common.{◌∷◌, []}
use Rattle.std.specs.Int.{w16}
use Rattle.cdr_core.specs.Field.{number, octets_fields}
use Rattle.giop_messages.proofs.LengthLaws.{ends_then, ends_u16}
use Rattle.giop_messages.proofs.length.behind_key.Goals as goal

pub returns : goal.returns
returns c bytes len =
    ends_then c.args.place c.behind.result c.behind_octets.result (number w16 0 ∷ []) (octets_fields bytes)
    (ends_u16 c.args.place c.behind.result 0 c.behind.ensures) (c.behind_octets.ensures bytes len)
