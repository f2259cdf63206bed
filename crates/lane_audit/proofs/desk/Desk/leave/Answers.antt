-- A slot that leaves changes nothing that is owed.
use Rattle.std.proofs.Common.{sym}
use Rattle.lane_audit.proofs.Kept.{leave_kept}
use Rattle.lane_audit.proofs.desk.Desk.leave.Goals as goal

pub invariant_of-self-2 : goal.invariant_of-self-2
invariant_of-self-2 c = leave_kept c.self.inside.lists c.leave.new.self c.args.slot c.self.inside.counts (sym c.if-has_left.ensures) c.in_ok-leave.ensures.ok c.self.invariant
