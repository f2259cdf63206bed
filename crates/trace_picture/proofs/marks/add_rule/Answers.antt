use Rattle.std.proofs.Common.{append_assoc}
use Rattle.trace_picture.specs.Marks.{rule_text}
use Rattle.trace_picture.proofs.marks.add_rule.Goals as goal

pub returns : goal.returns
unfolding rule_text
returns c = simp append_assoc c.in_ok-writeln.ensures.bytes
