use Rattle.std.proofs.Common.{append_assoc}
use Rattle.trace_picture.specs.Grounds.{strip_at}
use Rattle.trace_picture.proofs.ground.add_strip_at.Goals as goal

pub returns : goal.returns
unfolding strip_at
returns c = simp append_assoc c.in_ok-writeln.ensures.bytes
