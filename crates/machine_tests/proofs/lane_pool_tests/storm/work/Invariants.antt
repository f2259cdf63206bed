use Rattle.lane_pool.specs.Returned.{IsAlone}
use Rattle.lane_pool.specs.Turns.{CanTake}
use Rattle.machine_tests.proofs.lane_pool_tests.storm.work.Given as goal

abbrev pub invariant-loop : goal.invariant-loop
invariant-loop g l = CanTake l.pool.cell l.worker × IsAlone l.pool.cell l.fn.worker.seat.number l.worker
