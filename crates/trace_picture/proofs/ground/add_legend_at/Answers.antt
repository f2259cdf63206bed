use Rattle.std.proofs.Common.{append_assoc}
use Rattle.trace_picture.specs.Grounds.{legend_at}
use Rattle.trace_picture.proofs.ground.add_legend_at.Goals as goal

pub returns : goal.returns
unfolding legend_at
returns c = simp append_assoc c.in_ok-write.ensures.bytes
