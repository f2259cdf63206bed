-- The count of the connection shrinks by the message.
use Rattle.lane_audit.proofs.Keeping.{some_owed, handed_owes}
use Rattle.lane_audit.proofs.Kept.{handed_kept}
use Rattle.lane_audit.proofs.Collecting.{hand_ready}
use Rattle.lane_audit.proofs.desk.Desk.hand.Goals as goal

pub take_one-requires : goal.take_one-requires
take_one-requires c = record { some = λ r. some_owed _ _ _ _ c.self.invariant (handed_owes _ _ _ c.if-not-hand.ensures.0) r }

pub invariant_of-self-2 : goal.invariant_of-self-2
invariant_of-self-2 c =
    handed_kept c.self.inside.lists c.hand.new.self c.args.conn c.args.item.now c.self.inside.counts c.take_one.new.self (hand_ready c.self.inside.lists c.args.conn c.args.item.now c.if-not-hand.ensures.0)
    c.if-not-hand.ensures c.take_one.ensures c.self.invariant
