use Rattle.std.proofs.Common.{◌+◌, ◌∷◌, ◌++◌, [], length, refl}
use Rattle.std.specs.Int.{w32}
use Rattle.cdr_core.specs.Field.{number, run}
use Rattle.cdr_values.proofs.Ending.{ends_then, ends_number, ends_run, ends_nul}
use Rattle.cdr_values.proofs.length.behind_text.Goals as goal

pub returns : goal.returns
returns c text len =
    let counted = ends_number c.args.place c.behind.result (length text + 1) w32 c.behind.ensures in
    let first = ends_run c.behind.result 1 c.args.len c.behind-2.result text len c.behind-2.ensures in
    let last = ends_run c.behind-2.result 1 1 c.behind-3.result (0 ∷ []) refl c.behind-3.ensures in
    let both = ends_then c.behind.result c.behind-2.result c.behind-3.result (run 1 text ∷ []) (run 1 (0 ∷ []) ∷ []) first last in
    ends_then c.args.place c.behind.result c.behind-3.result (number w32 (length text + 1) ∷ []) (run 1 (text ++ 0 ∷ []) ∷ [])
    counted (ends_nul c.behind.result c.behind-3.result text both)
