use Rattle.std.specs.Prelude.{◌≡◌}
use Rattle.lane_pool.specs.Returned.{IsSame}
use Rattle.lane_pool.specs.Turns.{Listens, heard_by}
use Rattle.machine_tests.proofs.lane_pool_tests.storm.call_all.Given as goal

abbrev pub invariant-loop-i : goal.invariant-loop-i
invariant-loop-i g l = Listens l.pool.cell l.reader × (heard_by l.reader ≡ l.i) × IsSame l.pool.cell l.fn.reader l.reader
