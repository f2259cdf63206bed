use Rattle.pipe_laws.specs.Piped.{in_hand}
use Rattle.pipe_laws.specs.Lacking.{served}
use Rattle.lane_driver.specs.Turning.{Turns}
use Rattle.lane_driver.proofs.turns.run_to_rest.Given as goal

abbrev pub invariant-loop-thread : goal.invariant-loop-thread
invariant-loop-thread g l = Turns (served l.fn.setup (g.S.Serving.outcome l.fn.servants)) l.fn.lanes l.lanes l.fn.log l.log

abbrev pub decreases-loop-thread : goal.decreases-loop-thread
decreases-loop-thread g l = in_hand l.lanes
