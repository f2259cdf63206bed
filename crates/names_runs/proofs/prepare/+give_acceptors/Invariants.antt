use Rattle.std.specs.Prelude.{length}
use Rattle.names_runs.proofs.prepare.+give_acceptors.Given as goal

abbrev pub decreases-give_acceptors : goal.decreases-give_acceptors
decreases-give_acceptors g l = length l.starts.items
