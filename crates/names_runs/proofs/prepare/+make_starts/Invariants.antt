use Rattle.std.specs.Prelude.{length}
use Rattle.names_runs.proofs.prepare.+make_starts.Given as goal

abbrev pub decreases-make_starts : goal.decreases-make_starts
decreases-make_starts g l = length l.hands.items
