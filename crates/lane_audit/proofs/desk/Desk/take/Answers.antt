-- A Take changes nothing that is owed.
use Rattle.std.proofs.Common.{sym}
use Rattle.lane_audit.specs.Verdicts.{task_reply}
use Rattle.lane_audit.proofs.Kept.{take_any}
use Rattle.lane_audit.proofs.desk.Desk.take.Goals as goal

pub invariant_of-self : goal.invariant_of-self
invariant_of-self c =
    take_any c.self.inside.lists c.take.new.self c.args.thread (task_reply c.args.task) c.self.inside.counts c.take.result (sym c.if-not-can_take.ensures) c.take.ensures c.self.invariant
