use Rattle.std.specs.Prelude.{length}
use Rattle.lane_pool.proofs.returning.+take_workers.Given as goal

abbrev pub decreases-take_workers : goal.decreases-take_workers
decreases-take_workers l = length l.workers.items
