use Rattle.std.proofs.Common.{◌∷◌, [], length}
use Rattle.std.specs.Int.{w32}
use Rattle.std.specs.List.{flat_map}
use Rattle.cdr_core.specs.Field.{number}
use Rattle.cdr_core.specs.Lists.{context_fields}
use Rattle.giop_messages.proofs.LengthLaws.{ends_then}
use Rattle.giop_messages.proofs.length.behind_sized_contexts.Goals as goal

pub returns : goal.returns
returns c contexts same =
    ends_then c.args.place c.behind_u32.result c.behind_sizes.result (number w32 (length contexts) ∷ []) (flat_map context_fields contexts)
    (c.behind_u32.ensures (length contexts)) (c.behind_sizes.ensures contexts same)
