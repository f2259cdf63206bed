-- One thread after another.
use Rattle.std.proofs.Common.{arith}
use Rattle.thread_borrowing.specs.Choice.{can_start, rank}
use Rattle.lane_audit.proofs.Greatest.{one_more, all_seen}
use Rattle.lane_audit.proofs.scans.greatest_rank.Goals as goal

pub loop-thread-preserved : goal.loop-thread-preserved
loop-thread-preserved c =
    one_more (can_start c.args.borrowing c.args.lane) rank c.args.threads.now c.loop-thread.thread-index c.thread-item.result c.loop-thread.most
    c.higher_rank-most.result c.loop-thread.invariant (omega arith) c.thread-item.is c.higher_rank-most.ensures

pub returns : goal.returns
returns c = all_seen (can_start c.args.borrowing c.args.lane) rank c.args.threads.now c.loop-thread.thread-index c.loop-thread.most c.loop-thread.invariant (omega arith)
