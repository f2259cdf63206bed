-- The count of the connection has room, and grows by what is owed more.
use Rattle.std.proofs.Common.{rules}
use Rattle.lane_audit.proofs.Keeping.{room}
use Rattle.lane_audit.proofs.Kept.{post_kept}
use Rattle.lane_audit.proofs.desk.Desk.post.Goals as goal

pub add-requires : goal.add-requires
add-requires c = record { fits = λ r. room c.self.inside.lists c.self.inside.counts c.args.conn c.post_brings.result c.self.invariant c.post_brings.ensures.few r }

pub invariant_of-self-2 : goal.invariant_of-self-2
invariant_of-self-2 c =
    post_kept c.self.inside.lists c.post.new.self c.args.conn c.args.id c.args.reply c.self.inside.counts c.add.new.self c.post_brings.result
    (search rules) (search rules) c.post_brings.ensures.value c.add.ensures c.self.invariant
