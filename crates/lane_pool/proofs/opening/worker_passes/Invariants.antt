use Rattle.std.specs.Prelude.{◌≡◌, ◌+◌, length}
use Rattle.lane_pool.specs.Passes.{AreFrom, MainAt}
use Rattle.lane_pool.proofs.opening.worker_passes.Given as goal

abbrev pub invariant-loop-thread : goal.invariant-loop-thread
invariant-loop-thread l = MainAt l.cell (l.slots + l.thread) l.main × (length l.passes.items ≡ l.thread) × AreFrom l.cell (l.slots + 1) 0 l.passes.items
