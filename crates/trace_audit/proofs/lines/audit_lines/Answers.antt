use Rattle.std.proofs.Common.{string_bytes, arith}
use Rattle.trace_audit.proofs.Numbered.{one_line}
use Rattle.trace_audit.proofs.lines.audit_lines.Goals as goal

pub loop-n-preserved : goal.loop-n-preserved
loop-n-preserved c =
    one_line c.args.verdicts.now c.loop-n.n _ (string_bytes c.loop-n.text) (string_bytes c.put_line.new.text) (omega arith) c.loop-n.invariant c.in_ok-put_line.ensures
