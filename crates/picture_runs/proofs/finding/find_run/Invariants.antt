use Rattle.std.proofs.Common.{length}
use Rattle.picture_runs.proofs.Looking.{LookedSoFar}
use Rattle.picture_runs.proofs.finding.find_run.Given as goal

abbrev pub invariant-loop-rest : goal.invariant-loop-rest
invariant-loop-rest l = LookedSoFar l.text l.rest l.wanted l.n l.kept

abbrev pub decreases-loop-rest : goal.decreases-loop-rest
decreases-loop-rest l = length l.rest
