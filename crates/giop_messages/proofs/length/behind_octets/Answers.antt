use Rattle.std.proofs.Common.{◌∷◌, [], length}
use Rattle.std.specs.Int.{w32}
use Rattle.cdr_core.specs.Field.{number, run}
use Rattle.giop_messages.proofs.LengthLaws.{ends_then, ends_run}
use Rattle.giop_messages.proofs.length.behind_octets.Goals as goal

pub returns : goal.returns
returns c bytes len =
    ends_then c.args.place c.behind_u32.result c.behind.result (number w32 (length bytes) ∷ []) (run 1 bytes ∷ [])
    (c.behind_u32.ensures (length bytes))
    (ends_run c.behind_u32.result 1 c.args.len c.behind.result bytes len c.behind.ensures)
