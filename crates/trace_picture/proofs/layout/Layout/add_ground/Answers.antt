use Rattle.trace_picture.specs.Grounds.{ground_text}
use Rattle.trace_picture.proofs.Chains.{six}
use Rattle.trace_picture.proofs.layout.Layout.add_ground.Goals as goal

pub returns : goal.returns
unfolding ground_text
returns c =
    six _ _ _ _ _ _ _ _ _ _ _ _ _ c.in_ok-add_head.ensures c.in_ok-add_all_patterns.ensures c.in_ok-add_all_strips.ensures c.in_ok-add_all_rows.ensures
    c.in_ok-add_axis.ensures c.in_ok-add_all_numbers.ensures
