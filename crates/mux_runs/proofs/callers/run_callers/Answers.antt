use Rattle.mux_runs.specs.Callers.{IsReady}
use Rattle.mux_runs.proofs.CallerJobs.{jobs_own, done_own}
use Rattle.mux_runs.proofs.callers.run_callers.Goals as goal

pub run_all-requires-clause-jobs : goal.run_all-requires-clause-jobs
run_all-requires-clause-jobs g c κs within =
    jobs_own c.args.shared.now.cell (λ j. IsReady c.args.shared.now.cell j.seat.number j) (λ j r. r) 1 c.args.jobs.items c.requires.jobs

pub returns-clause-called : goal.returns-clause-called
returns-clause-called g c = done_own c.args.shared.now.cell _ (λ j d q. q) 1 c.args.jobs.items c.run_all.result.items c.requires.jobs c.run_all.ensures.did
