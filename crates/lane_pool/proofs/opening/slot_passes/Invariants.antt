use Rattle.std.specs.Prelude.{◌≡◌, length}
use Rattle.lane_pool.specs.Passes.{AreFrom, MainAt}
use Rattle.lane_pool.proofs.opening.slot_passes.Given as goal

abbrev pub invariant-loop-slot : goal.invariant-loop-slot
invariant-loop-slot l = MainAt l.cell l.slot l.main × (length l.passes.items ≡ l.slot) × AreFrom l.cell 1 0 l.passes.items
