use Rattle.fit_audit.proofs.Judging.{JudgesAt}
use Rattle.fit_audit.proofs.fit.are_fit.Given as goal

abbrev pub invariant-loop-line : goal.invariant-loop-line
invariant-loop-line l = JudgesAt l.slots l.per_slot l.lines l.line-index l.seats
