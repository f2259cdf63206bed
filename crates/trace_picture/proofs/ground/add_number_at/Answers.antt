use Rattle.std.proofs.Common.{append_assoc}
use Rattle.trace_picture.specs.Grounds.{number_at}
use Rattle.trace_picture.proofs.ground.add_number_at.Goals as goal

pub returns : goal.returns
unfolding number_at
returns c = simp append_assoc c.in_ok-writeln.ensures.bytes
