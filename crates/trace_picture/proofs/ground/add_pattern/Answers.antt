use Rattle.std.proofs.Common.{append_assoc}
use Rattle.trace_picture.specs.Grounds.{pattern_text}
use Rattle.trace_picture.proofs.ground.add_pattern.Goals as goal

pub returns : goal.returns
unfolding pattern_text
returns c = simp append_assoc c.in_ok-writeln.ensures.bytes
