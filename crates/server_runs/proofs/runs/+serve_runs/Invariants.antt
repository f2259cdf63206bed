use Rattle.server_runs.proofs.runs.+serve_runs.Given as goal

abbrev pub decreases-serve_runs : goal.decreases-serve_runs
decreases-serve_runs g l = l.plan.now.runs
