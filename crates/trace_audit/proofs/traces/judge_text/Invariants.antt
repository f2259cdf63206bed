use Rattle.std.proofs.Common.{length}
use Rattle.trace_audit.proofs.Runs.{JudgedSoFar}
use Rattle.trace_audit.proofs.traces.judge_text.Given as goal

abbrev pub invariant-loop-rest : goal.invariant-loop-rest
invariant-loop-rest l = JudgedSoFar l.text l.rest l.verdicts.items

abbrev pub decreases-loop-rest : goal.decreases-loop-rest
decreases-loop-rest l = length l.rest
