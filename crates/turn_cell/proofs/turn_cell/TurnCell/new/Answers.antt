use Rattle.turn_cell.proofs.Opens.{starts_seated}
use Rattle.turn_cell.proofs.turn_cell.TurnCell.new.Goals as goal

pub invariant_of-result : goal.invariant_of-result
invariant_of-result g c = let o = g.O.Object in starts_seated o.ready o.sound o.step o.opens o.fit record { opening = c.args.object; length = c.args.length } c.in_ok-board.place.me c.requires.opens c.in_ok-board.ensures.2
