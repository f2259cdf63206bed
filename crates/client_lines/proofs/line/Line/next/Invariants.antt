use Rattle.std.proofs.Common.{◌-◌}
use Rattle.client_lines.specs.Lines.{ReadOn}
use Rattle.client_lines.proofs.line.Line.next.Given as goal

abbrev pub invariant-loop-alloc : goal.invariant-loop-alloc
invariant-loop-alloc g l = ReadOn l.fn.self l.self (g.I.Source.state l.fn.source) (g.I.Source.state l.source)

abbrev pub decreases-loop-alloc : goal.decreases-loop-alloc
decreases-loop-alloc g l = 67108864 - l.self.taken
