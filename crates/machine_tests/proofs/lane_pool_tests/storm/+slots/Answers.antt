use Rattle.lane_pool.proofs.Sending.{slots_last, slots_front}
use Rattle.machine_tests.proofs.lane_pool_tests.storm.+slots.Goals as goal

pub run_slots-with_slots-requires-clause-slot : goal.run_slots-with_slots-requires-clause-slot
run_slots-with_slots-requires-clause-slot g t c κs within = slots_last c.args.pool.now.cell c.args.slots.items c.pop.new.self.items c.in-Some.slot c.requires.slots c.in-Some.ensures.items

pub run_slots-with_slots-requires-clause-slots : goal.run_slots-with_slots-requires-clause-slots
run_slots-with_slots-requires-clause-slots g t c κs within = slots_front c.args.pool.now.cell c.args.slots.items c.pop.new.self.items c.in-Some.slot c.requires.slots c.in-Some.ensures.items
