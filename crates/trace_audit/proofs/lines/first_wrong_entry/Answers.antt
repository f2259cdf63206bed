use Rattle.std.proofs.Common.{arith}
use Rattle.trace_audit.proofs.Numbered.{one_legal, here_wrong}
use Rattle.trace_audit.proofs.lines.first_wrong_entry.Goals as goal

pub returns-in-Some : goal.returns-in-Some
returns-in-Some c = here_wrong c.args.verdicts.now c.loop-n.n _ c.in-Some.entry (omega arith) c.in-Some.is c.loop-n.invariant

pub loop-n-preserved : goal.loop-n-preserved
loop-n-preserved c = one_legal c.args.verdicts.now c.loop-n.n _ (omega arith) c.in_default.is c.loop-n.invariant
