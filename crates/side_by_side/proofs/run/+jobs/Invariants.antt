use Rattle.std.specs.Prelude.{length, ◌+◌, ◌*◌}
use Rattle.side_by_side.proofs.run.+jobs.Given as goal

abbrev pub decreases-with_others-join+arg3 : goal.decreases-with_others-join+arg3
decreases-with_others-join+arg3 g l = 3 * length l.jobs.items + 1

abbrev pub decreases-with_others : goal.decreases-with_others
decreases-with_others g l = 3 * length l.jobs.items + 2

abbrev pub decreases-run_all : goal.decreases-run_all
decreases-run_all g l = 3 * length l.jobs.items
