use Rattle.std.proofs.Common.{inl}
use Rattle.client_runs.specs.Plans.{asked_in}
use Rattle.client_runs.proofs.run.call_known.Goals as goal

pub returns-in-Ok-clause-calls : goal.returns-in-Ok-clause-calls
returns-in-Ok-clause-calls g c = inl (asked_in c.in-Ok.plan, c.in-Ok.ensures.judges, c.call_planned.ensures.connects)
