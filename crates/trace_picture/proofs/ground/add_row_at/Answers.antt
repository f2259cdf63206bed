use Rattle.std.proofs.Common.{append_assoc}
use Rattle.trace_picture.specs.Grounds.{row_at}
use Rattle.trace_picture.proofs.ground.add_row_at.Goals as goal

pub returns : goal.returns
unfolding row_at
returns c = simp append_assoc c.in_ok-writeln.ensures.bytes
