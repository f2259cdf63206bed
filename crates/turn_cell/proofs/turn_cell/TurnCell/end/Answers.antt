use Rattle.std.proofs.Common.{ap, subst, ◌∙◌, ℕ}
use Rattle.turn_cell.specs.History.{replay}
use Rattle.turn_cell.specs.Seats.{CellView, SeatView}
use Rattle.turn_cell.specs.Whole.{IsWholeOf}
use Rattle.turn_cell.proofs.turn_cell.TurnCell.end.Goals as goal

pub returns-clause-history : goal.returns-clause-history
returns-clause-history g c = let o = g.O.Object in let s = c.seat.inside in let ends = c.close-object.ensures s.number c.seat.invariant.2.1.1 in
    subst (λ (z : CellView g.row.O.Denot × SeatView g.row.O.Denot g.row.O-Call.Denot g.row.O-Reply.Denot). IsWholeOf o.ready o.sound o.step o.opens o.fit z.0.terms z.1.number z.1.splits z.1.seen z.1.mine z.1.ended c.close-object.result.history.list.items)
    (λ i. (c.self.view_is i, c.seat.view_is i))
    (subst (λ (k : ℕ). IsWholeOf o.ready o.sound o.step o.opens o.fit c.self.inside.board.table.shared.key.value s.number k s.place.me.0.seen s.place.me.0.mine s.place.me.0.ended c.close-object.result.history.list.items) c.seat.invariant.1 ends.0)

pub returns-clause-object : goal.returns-clause-object
returns-clause-object g c = let o = g.O.Object in let s = c.seat.inside in let ends = c.close-object.ensures s.number c.seat.invariant.2.1.1 in
    ends.1 ∙ ap (λ (z : CellView g.row.O.Denot). replay o.step z.terms.opening c.close-object.result.history.list.items) c.self.view_is
