use Rattle.load_runs.specs.Generated.{request_at}
use Rattle.load_runs.specs.Making.{MadeSoFar}
use Rattle.load_runs.proofs.input.requests.Given as goal

abbrev pub invariant-loop-i : goal.invariant-loop-i
invariant-loop-i l = MadeSoFar l.plan.fragment (request_at (record { object = l.object; model = l.model }) l.pool l.plan.seed) l.i l.input.items
