use Rattle.lane_pool.proofs.Giving.{given_more}
use Rattle.lane_pool.proofs.returning.+take_slots.Goals as goal

pub returns-in-Some : goal.returns-in-Some
returns-in-Some t c = given_more c.args.cell.now c.args.slots.items c.pop.new.self.items c.in-Some.pass c.args.main.now c.take_slots.new.main c.join_slot.new.main c.in-Some.ensures.items c.take_slots.ensures c.take_slots.ensures.in_cell c.join_slot.ensures
