use Rattle.std.proofs.Common.{append_assoc}
use Rattle.trace_picture.specs.Pictures.{title_text}
use Rattle.trace_picture.proofs.pictures.add_title.Goals as goal

pub returns : goal.returns
unfolding title_text
returns c = simp append_assoc c.in_ok-writeln.ensures.bytes
