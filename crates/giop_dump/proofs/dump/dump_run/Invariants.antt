use Rattle.std.proofs.Common.{◌-◌}
use Rattle.giop_dump.proofs.Runs.{DumpsSoFar}
use Rattle.giop_dump.proofs.dump.dump_run.Given as goal

abbrev pub invariant-loop-taken : goal.invariant-loop-taken
invariant-loop-taken g l =
    DumpsSoFar l.framer l.taken (g.I.Source.state l.fn.source) (g.I.Source.state l.source) (g.O.Sink.state l.fn.sink) (g.O.Sink.state l.sink)

abbrev pub decreases-loop-taken : goal.decreases-loop-taken
decreases-loop-taken g l = 67108864 - l.taken
