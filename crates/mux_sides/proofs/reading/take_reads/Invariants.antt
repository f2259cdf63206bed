use Rattle.std.proofs.Common.{◌-◌}
use Rattle.mux_sides.proofs.ReadLaws.{ReadSoFar}
use Rattle.mux_sides.proofs.reading.take_reads.Given as goal

abbrev pub invariant-loop-taken : goal.invariant-loop-taken
invariant-loop-taken g l = ReadSoFar l.shared.cell l.hearing l.taken l.count (g.I.Source.state l.fn.source) (g.I.Source.state l.source) l.fn.seat l.seat

abbrev pub decreases-loop-taken : goal.decreases-loop-taken
decreases-loop-taken g l = 67108864 - l.taken
