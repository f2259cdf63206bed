use Rattle.std.proofs.Common.{append_assoc}
use Rattle.trace_picture.specs.Pictures.{counts_line}
use Rattle.trace_picture.proofs.pictures.add_counts_line.Goals as goal

pub returns : goal.returns
unfolding counts_line
returns c = simp append_assoc c.in_ok-writeln.ensures.bytes
