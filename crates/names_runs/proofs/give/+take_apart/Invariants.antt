use Rattle.std.specs.Prelude.{length}
use Rattle.names_runs.proofs.give.+take_apart.Given as goal

abbrev pub decreases-take_apart : goal.decreases-take_apart
decreases-take_apart g l = length l.done.items
