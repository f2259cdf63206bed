use Rattle.std.specs.Prelude.{length}
use Rattle.lane_pool.proofs.returning.+take_slots.Given as goal

abbrev pub decreases-take_slots : goal.decreases-take_slots
decreases-take_slots l = length l.slots.items
