use Rattle.std.proofs.Common.{append_assoc}
use Rattle.trace_picture.specs.Marks.{bar_text}
use Rattle.trace_picture.proofs.marks.add_bar.Goals as goal

pub returns : goal.returns
unfolding bar_text
returns c = simp append_assoc c.in_ok-writeln.ensures.bytes
