use Rattle.std.proofs.Common.{subst}
use Rattle.turn_cell.specs.Calls.{IsJoined}
use Rattle.names_hall.specs.Hands.{Hand}
use Rattle.names_hall.proofs.Giving.{taken_more}
use Rattle.names_hall.proofs.closing.+take_all.Goals as goal

pub returns-in-Some-clause-taken : goal.returns-in-Some-clause-taken
returns-in-Some-clause-taken t c =
    taken_more c.args.cell.now c.args.hands.items c.pop.new.self.items c.in-Some.hand c.args.main.now c.take_all-done.new.main c.join.new.into c.in-Some.ensures.items
    c.requires.hands c.take_all-done.ensures.taken (subst (λ (h : Hand). IsJoined c.take_all-done.new.main h.seat c.join.new.into) c.hand.view_is c.join.ensures)
