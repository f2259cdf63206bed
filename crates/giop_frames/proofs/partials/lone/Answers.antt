use Rattle.std.proofs.Common.{refl, ◌∙◌}
use Rattle.giop_frames.proofs.Deeds.{ok_then, does_lone, steps_as, gives_lone}
use Rattle.giop_frames.specs.Pieces.{Piece}
use Rattle.giop_frames.proofs.partials.lone.Goals as goal

pub returns-clause-ok : goal.returns-clause-ok
returns-clause-ok c =
    let p : Piece = record { at = c.args.at; bytes = c.args.bytes.items } in
    ok_then c.give.result c.give.ensures.ok (λ g. does_lone p c.args.partials.now.items c.cancel.new.partials.items c.args.whole.now.items c.give.new.whole.items
    c.requires.last c.requires.other (steps_as _ _ _ _ c.as_slice.ensures c.cancel.ensures)
    (gives_lone p c.args.whole.now.items c.give.new.whole.items c.args.header.order c.number.result c.args.bytes.items c.args.bytes.items
    c.requires.header.order refl (c.number.ensures ∙ c.requires.header.kind) refl g))
