-- A connection that ends changes nothing that is owed.
use Rattle.std.proofs.Common.{rules}
use Rattle.lane_audit.proofs.Kept.{end_kept}
use Rattle.lane_audit.proofs.desk.Desk.end.Goals as goal

pub invariant_of-self-2 : goal.invariant_of-self-2
invariant_of-self-2 c = end_kept c.self.inside.lists c.end.new.self c.args.conn c.args.how c.self.inside.counts (search rules) c.in_ok-end.ensures.ok c.self.invariant
