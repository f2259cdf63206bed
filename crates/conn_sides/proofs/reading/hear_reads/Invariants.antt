use Rattle.std.proofs.Common.{◌-◌}
use Rattle.conn_sides.proofs.ReadRuns.{ReadSoFar}
use Rattle.conn_sides.proofs.reading.hear_reads.Given as goal

abbrev pub invariant-loop-taken : goal.invariant-loop-taken
invariant-loop-taken g l = ReadSoFar l.pool.cell l.fn.setup l.hearing l.taken l.fn.pass l.pass (g.I.Source.state l.fn.source) (g.I.Source.state l.source)

abbrev pub decreases-loop-taken : goal.decreases-loop-taken
decreases-loop-taken g l = 67108864 - l.taken
