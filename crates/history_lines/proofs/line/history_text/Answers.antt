use Rattle.std.proofs.Common.{arith}
use Rattle.history_lines.proofs.Growing.{grown, whole}
use Rattle.history_lines.proofs.line.history_text.Goals as goal

pub loop-entry-preserved : goal.loop-entry-preserved
loop-entry-preserved c = grown c.loop-entry.entry-index c.args.history.now _ _ c.entry-item.result c.loop-entry.invariant (omega arith) c.entry-item.is c.in_ok-put_line.ensures

pub returns : goal.returns
returns c = whole c.loop-entry.entry-index c.args.history.now _ c.loop-entry.invariant (omega arith)
