use Rattle.std.specs.Prelude.{length}
use Rattle.mux_runs.proofs.jobs.+give_calls.Given as goal

abbrev pub decreases-give_calls : goal.decreases-give_calls
decreases-give_calls l = length l.seats.items
