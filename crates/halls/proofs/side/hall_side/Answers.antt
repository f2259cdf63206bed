use Rattle.halls.proofs.LastWords.{both_sides}
use Rattle.halls.proofs.side.hall_side.Goals as goal

pub returns-clause-sides : goal.returns-clause-sides
returns-clause-sides g c =
    both_sides c.read_all-read.result c.say_last-write.result _ _ _ _ _ _ _ _ _ c.read_all-read.ensures.reads c.say_last-write.ensures c.close.ensures
