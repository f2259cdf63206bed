use Rattle.std.proofs.Common.{◌-◌}
use Rattle.pipe_laws.specs.Lacking.{served}
use Rattle.conn_engine.proofs.ReadRuns.{ReadSoFar}
use Rattle.conn_engine.proofs.feeding.feed_stream.Given as goal

abbrev pub invariant-loop-taken : goal.invariant-loop-taken
invariant-loop-taken g l =
    ReadSoFar l.fn.setup l.batch (served l.fn.setup (g.S.Serving.outcome l.fn.servants)) l.hearing l.taken l.fn.lanes l.lanes l.fn.room l.room
    (g.I.Source.state l.fn.source) (g.I.Source.state l.source) l.fn.log l.log (g.O.Sink.state l.fn.sink) (g.O.Sink.state l.sink)

abbrev pub decreases-loop-taken : goal.decreases-loop-taken
decreases-loop-taken g l = 67108864 - l.taken
