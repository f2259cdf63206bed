use Rattle.std.proofs.Common.{ap, ◌∙◌}
use Rattle.giop_dump.specs.Ending.{lines_before, first_refusal}
use Rattle.giop_dump.proofs.Pieces.{lines_added}
use Rattle.giop_dump.proofs.dump.take_piece.Goals as goal

pub returns-clause-ok : goal.returns-clause-ok
returns-clause-ok c =
    let text = c.in_ok-text.ensures.text ∙ ap lines_before c.as_slice.ensures in
    let first = c.in_ok-text.ensures.refusal ∙ ap first_refusal c.as_slice.ensures in
    lines_added c.args.framer.now c.feed.new.framer _ _ _ _ _ c.requires.going c.in_ok-broken.ensures.ok text first c.or.ensures
