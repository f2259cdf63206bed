use Rattle.std.proofs.Common.{append_assoc}
use Rattle.trace_picture.specs.Marks.{line_text}
use Rattle.trace_picture.proofs.marks.add_line.Goals as goal

pub returns : goal.returns
unfolding line_text
returns c = simp append_assoc c.in_ok-writeln.ensures.bytes
