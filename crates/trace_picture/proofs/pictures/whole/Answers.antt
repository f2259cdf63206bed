use Rattle.trace_picture.specs.Pictures.{whole_text}
use Rattle.trace_picture.proofs.Wholes.{from_nothing}
use Rattle.trace_picture.proofs.Chains.{six}
use Rattle.trace_picture.proofs.pictures.whole.Goals as goal

pub returns : goal.returns
unfolding whole_text
returns c =
    from_nothing _ _ _ c.new-text.ensures.bytes
    (six _ _ _ _ _ _ _ _ _ _ _ _ _ c.in_ok-add_ground.ensures c.in_ok-add_title.ensures c.in_ok-add_note.ensures c.in_ok-add_counts.ensures
    c.in_ok-add_shapes.ensures c.in_ok-add_legend.ensures)
