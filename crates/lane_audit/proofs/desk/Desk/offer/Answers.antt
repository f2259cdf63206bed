-- The count of the request's connection has room, and grows by what is owed more.
use Rattle.std.proofs.Common.{rules}
use Rattle.lane_audit.proofs.Keeping.{room}
use Rattle.lane_audit.proofs.Kept.{offer_kept}
use Rattle.lane_audit.proofs.desk.Desk.offer.Goals as goal

pub add-requires : goal.add-requires
add-requires c = record { fits = λ r. room c.self.inside.lists c.self.inside.counts c.conn-2.result c.offer_brings.result c.self.invariant c.offer_brings.ensures.few r }

pub invariant_of-self-2 : goal.invariant_of-self-2
invariant_of-self-2 c =
    offer_kept c.self.inside.lists c.offer.new.self c.args.asked c.args.reply c.self.inside.counts c.add.new.self c.offer_brings.result c.conn-2.result
    (search rules) (search rules) (search rules) c.conn-2.ensures (search rules) c.add.ensures c.self.invariant
