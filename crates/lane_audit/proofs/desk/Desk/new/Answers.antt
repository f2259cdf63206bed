-- Nothing is owed at the opening.
use Rattle.lane_audit.proofs.Kept.{opening_counted}
use Rattle.lane_audit.proofs.desk.Desk.new.Goals as goal

pub invariant_of-result : goal.invariant_of-result
invariant_of-result c = opening_counted c.args.pool.now c.args.slots c.args.per_slot _ _ c.requires.can c.in_ok-lists.ensures c.in_ok-counts.ensures
