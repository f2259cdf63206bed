use Rattle.std.proofs.Common.{length}
use Rattle.lane_driver.specs.Collecting.{Empties}
use Rattle.lane_driver.proofs.collects.collect_all.Given as goal

abbrev pub invariant-loop-lanes : goal.invariant-loop-lanes
invariant-loop-lanes g l = Empties l.fn.lanes l.lanes l.fn.log l.log (g.O.Sink.state l.fn.sink) (g.O.Sink.state l.sink)

abbrev pub decreases-loop-lanes : goal.decreases-loop-lanes
decreases-loop-lanes g l = length l.lanes.out
