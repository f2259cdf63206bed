use Rattle.std.proofs.Common.{◌∷◌, [], length}
use Rattle.std.specs.Int.{w32}
use Rattle.std.specs.List.{flat_map}
use Rattle.cdr_core.specs.Field.{number}
use Rattle.cdr_core.specs.Lists.{context_fields}
use Rattle.giop_messages.proofs.LengthLaws.{ends_then}
use Rattle.giop_messages.proofs.length.behind_contexts.Goals as goal

pub returns : goal.returns
returns c =
    ends_then c.args.place c.behind_u32.result c.behind_context_list.result (number w32 (length c.args.list.now) ∷ []) (flat_map context_fields c.args.list.now)
    (c.behind_u32.ensures (length c.args.list.now)) c.behind_context_list.ensures
