use Rattle.std.specs.Prelude.{length}
use Rattle.shared_link.proofs.closing.+take_in.Given as goal

abbrev pub decreases-take_in : goal.decreases-take_in
decreases-take_in l = length l.seats.items
