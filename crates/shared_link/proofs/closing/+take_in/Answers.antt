use Rattle.shared_link.proofs.Closings.{taken_more}
use Rattle.shared_link.proofs.closing.+take_in.Goals as goal

pub returns-in-Some : goal.returns-in-Some
returns-in-Some t c =
    taken_more c.args.cell.now c.args.seats.items c.pop.new.self.items c.in-Some.seat c.args.main.now c.take_in.new.main c.join_one.new.main c.in-Some.ensures.items c.take_in.ensures c.join_one.ensures
