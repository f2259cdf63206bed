use Rattle.std.proofs.Common.{append_assoc}
use Rattle.trace_picture.specs.Grounds.{head_of}
use Rattle.trace_picture.proofs.ground.add_head_of.Goals as goal

pub returns : goal.returns
unfolding head_of
returns c = simp append_assoc c.in_ok-write.ensures.bytes
