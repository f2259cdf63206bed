-- One request after another.
use Rattle.std.proofs.Common.{arith}
use Rattle.orb_base.specs.declared.job.Job.{Job}
use Rattle.thread_borrowing.specs.Choice.{may_run}
use Rattle.lane_audit.proofs.Greatest.{one_more, all_seen}
use Rattle.lane_audit.proofs.waiting.greatest_priority.Goals as goal

pub loop-asked-preserved : goal.loop-asked-preserved
loop-asked-preserved c =
    one_more (λ (job : Job). may_run c.args.borrowing c.args.lane job.lane) (λ (job : Job). job.priority) c.args.requests.now c.loop-asked.asked-index c.asked-item.result
    c.loop-asked.most c.higher_priority-most.result c.loop-asked.invariant (omega arith) c.asked-item.is c.higher_priority-most.ensures

pub returns : goal.returns
returns c =
    all_seen (λ (job : Job). may_run c.args.borrowing c.args.lane job.lane) (λ (job : Job). job.priority) c.args.requests.now c.loop-asked.asked-index c.loop-asked.most
    c.loop-asked.invariant (omega arith)
