use Rattle.std.proofs.Common.{drop}
use Rattle.pipe_laws.specs.Setup.{pipe_conn}
use Rattle.pipe_laws.specs.Legality.{AreHeardCalls}
use Rattle.pipe_laws.specs.Lacking.{served}
use Rattle.lane_driver.specs.Feeding.{Fed}
use Rattle.lane_driver.proofs.feeding.feed.Given as goal

abbrev pub invariant-loop-call : goal.invariant-loop-call
invariant-loop-call g l = record {
  fed : Fed l.batch (served l.fn.setup (g.S.Serving.outcome l.fn.servants)) l.fn.lanes l.lanes l.fn.room l.room l.calls (drop l.call-index l.calls) l.fn.log l.log
      (g.O.Sink.state l.fn.sink) (g.O.Sink.state l.sink);
  heard : AreHeardCalls l.fn.lanes.pool pipe_conn (drop l.call-index l.calls);
}
