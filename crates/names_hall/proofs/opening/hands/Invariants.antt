use Rattle.std.specs.Prelude.{◌≡◌, length}
use Rattle.names_hall.specs.Seats.{MainAt, AreFresh}
use Rattle.names_hall.proofs.opening.hands.Given as goal

abbrev pub invariant-loop-slot : goal.invariant-loop-slot
invariant-loop-slot l = MainAt l.cell l.slot l.main × (length l.hands.items ≡ l.slot) × AreFresh l.cell 0 l.hands.items
