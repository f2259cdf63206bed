-- One line after another.
use Rattle.std.proofs.Common.{arith}
use Rattle.lane_audit.proofs.Asking.{jobs_more, jobs_all}
use Rattle.lane_audit.proofs.offers.all_offered.Goals as goal

pub loop-line-preserved : goal.loop-line-preserved
loop-line-preserved c =
    jobs_more c.args.lines.now c.loop-line.line-index c.line-item.result c.loop-line.asked.items c.add_offered.new.asked.items c.loop-line.invariant
    (omega arith) c.line-item.is c.in_ok-add_offered.ensures

pub returns : goal.returns
returns c = jobs_all c.args.lines.now c.loop-line.line-index c.loop-line.asked.items c.loop-line.invariant (omega arith)
