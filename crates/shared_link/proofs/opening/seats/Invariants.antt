use Rattle.std.specs.Prelude.{◌≡◌, length}
use Rattle.shared_link.specs.Turns.{AreFrom, MainAt}
use Rattle.shared_link.proofs.opening.seats.Given as goal

abbrev pub invariant-loop-nth : goal.invariant-loop-nth
invariant-loop-nth l = MainAt l.cell l.nth l.main × (length l.seats.items ≡ l.nth) × AreFrom l.cell 1 l.seats.items
