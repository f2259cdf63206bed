use Rattle.lane_pool.specs.Returned.{IsSame}
use Rattle.lane_pool.specs.Turns.{Writes}
use Rattle.machine_tests.proofs.lane_pool_tests.storm.write.Given as goal

abbrev pub invariant-loop : goal.invariant-loop
invariant-loop g l = Writes l.pool.cell l.writer × IsSame l.pool.cell l.fn.writer l.writer
