use Rattle.orb_bench.proofs.links.callers.+call_often.Given as goal

abbrev pub decreases-call_often : goal.decreases-call_often
decreases-call_often g l = l.calls
