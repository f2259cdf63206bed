use Rattle.std.specs.Prelude.{length, ◌+◌, ◌*◌}
use Rattle.machine_tests.proofs.lane_pool_tests.storm.+slots.Given as goal

abbrev pub decreases-with_slots-join+arg3 : goal.decreases-with_slots-join+arg3
decreases-with_slots-join+arg3 g l = 3 * length l.slots.items + 1

abbrev pub decreases-with_slots : goal.decreases-with_slots
decreases-with_slots g l = 3 * length l.slots.items + 2

abbrev pub decreases-run_slots : goal.decreases-run_slots
decreases-run_slots g l = 3 * length l.slots.items
