use Rattle.std.proofs.Common.{append_assoc}
use Rattle.trace_picture.specs.Grounds.{axis_at}
use Rattle.trace_picture.proofs.ground.add_axis_at.Goals as goal

pub returns : goal.returns
unfolding axis_at
returns c = simp append_assoc c.in_ok-writeln.ensures.bytes
