use Rattle.std.proofs.Common.{◌+◌, ◌∷◌, ◌++◌, [], length, refl}
use Rattle.std.specs.Int.{w32}
use Rattle.cdr_core.specs.Field.{number, run}
use Rattle.giop_messages.proofs.LengthLaws.{ends_then, ends_run, ends_nul}
use Rattle.giop_messages.proofs.length.behind_text.Goals as goal

pub returns : goal.returns
returns c text len =
    let first = ends_run c.behind_u32.result 1 c.args.len c.behind.result text len c.behind.ensures in
    let last = ends_run c.behind.result 1 1 c.behind-2.result (0 ∷ []) refl c.behind-2.ensures in
    let both = ends_then c.behind_u32.result c.behind.result c.behind-2.result (run 1 text ∷ []) (run 1 (0 ∷ []) ∷ []) first last in
    ends_then c.args.place c.behind_u32.result c.behind-2.result (number w32 (length text + 1) ∷ []) (run 1 (text ++ 0 ∷ []) ∷ [])
    (c.behind_u32.ensures (length text + 1)) (ends_nul c.behind_u32.result c.behind-2.result text both)
