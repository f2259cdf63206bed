use Rattle.std.specs.Prelude.{length}
use Rattle.names_hall.proofs.closing.+take_all.Given as goal

abbrev pub decreases-take_all : goal.decreases-take_all
decreases-take_all l = length l.hands.items
