use Rattle.std.specs.Prelude.{length, ◌+◌, ◌*◌}
use Rattle.orb_bench.proofs.links.callers.+callers.Given as goal

abbrev pub decreases-join+arg3 : goal.decreases-join+arg3
decreases-join+arg3 g l = 2 * length l.seats.items + 1

abbrev pub decreases-run_callers : goal.decreases-run_callers
decreases-run_callers g l = 2 * length l.seats.items
