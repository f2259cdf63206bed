use Rattle.std.specs.Prelude.{length, ◌+◌, ◌*◌}
use Rattle.machine_tests.proofs.lane_pool_tests.storm.+workers.Given as goal

abbrev pub decreases-with_workers-join+arg3 : goal.decreases-with_workers-join+arg3
decreases-with_workers-join+arg3 g l = 3 * length l.workers.items + 1

abbrev pub decreases-with_workers : goal.decreases-with_workers
decreases-with_workers g l = 3 * length l.workers.items + 2

abbrev pub decreases-run_workers : goal.decreases-run_workers
decreases-run_workers g l = 3 * length l.workers.items
