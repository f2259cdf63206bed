use Rattle.std.proofs.Common.{append_assoc}
use Rattle.trace_picture.specs.Marks.{tick_text}
use Rattle.trace_picture.proofs.marks.add_tick.Goals as goal

pub returns : goal.returns
unfolding tick_text
returns c = simp append_assoc c.in_ok-writeln.ensures.bytes
