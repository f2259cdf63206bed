use Rattle.std.proofs.Common.{arith}
use Rattle.fit_audit.proofs.Counted.{one_kept}
use Rattle.fit_audit.proofs.counts.kept_lines.Goals as goal

pub loop-n-preserved : goal.loop-n-preserved
loop-n-preserved c =
    one_kept c.args.lines.now c.loop-n.n c.index-lines-n.result c.loop-n.kept.items c.keep_line.new.kept.items
    (omega arith) c.index-lines-n.is c.loop-n.invariant c.in_ok-keep_line.ensures
