use Rattle.std.proofs.Common.{sym, ap, subst, ◌∙◌, ◌≡◌, Some}
use Rattle.turn_cell.specs.Calls.{TriesOn}
use Rattle.turn_cell.specs.Seats.{CellView, SeatView}
use Rattle.turn_cell.proofs.Seats.{seated_after, tries_on, seat_view}
use Rattle.turn_cell.proofs.turn_cell.TurnCell.attempt.Goals as goal

pub invariant_of-seat : goal.invariant_of-seat
invariant_of-seat g c = let o = g.O.Object in seated_after o.ready o.sound o.step o.opens o.fit c.self.inside.board.table.shared.key.value c.seat.inside.number c.seat.inside.splits c.args.call c.seat.inside.place.me.0 c.attempt.new.place.me c.attempt.result c.attempt.ensures.same.2 c.seat.invariant.1 c.attempt.ensures.tells

pub returns : goal.returns
returns g c = let o = g.O.Object in let s = c.seat.inside in let t = c.self.inside.board.table.shared in
    let cell : CellView g.row.O.Denot = record { id = t.table_id; terms = t.key.value } in
    let old : SeatView g.row.O.Denot g.row.O-Call.Denot g.row.O-Reply.Denot = seat_view s.place.table_id s.number s.splits s.place.me.0 in
    let new : SeatView g.row.O.Denot g.row.O-Call.Denot g.row.O-Reply.Denot = seat_view c.attempt.new.place.table_id s.number s.splits c.attempt.new.place.me.0 in
    let terms : s.place.me.0.terms ≡ Some t.key.value = ap (λ z. z.terms) c.seat.view_is ∙ (c.requires.cell.1 ∙ ap (λ z. Some z.terms) (sym c.self.view_is)) in
    subst (λ (z : CellView g.row.O.Denot × SeatView g.row.O.Denot g.row.O-Call.Denot g.row.O-Reply.Denot). TriesOn o.ready o.sound o.step o.opens o.fit z.0 c.args.call z.1 new c.attempt.result) (λ i. (c.self.view_is i, c.seat.view_is i))
    (tries_on o.ready o.sound o.step o.opens o.fit cell s.number s.splits c.args.call s.place.me.0 c.attempt.new.place.me.0 s.place.table_id c.attempt.new.place.table_id c.attempt.result c.attempt.ensures.same.0 terms c.attempt.ensures.tells)
