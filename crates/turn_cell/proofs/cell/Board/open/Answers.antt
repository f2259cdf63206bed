use Rattle.std.proofs.Common.{sym, subst, refl, ◌∙◌, [], ◌∷◌, List, Option}
use Rattle.atomic_table.specs.Table.{opening}
use Rattle.turn_cell.specs.declared.board.Core.{Core}
use Rattle.turn_cell.specs.declared.board.Terms.{Terms}
use Rattle.turn_cell.specs.Rule.{Kept}
use Rattle.turn_cell.specs.Views.{starting}
use Rattle.turn_cell.proofs.Opens.{starts}
use Rattle.turn_cell.proofs.cell.Board.open.Goals as goal

pub new-requires : goal.new-requires
new-requires g c = let o = g.O.Object in let x : Terms g.row.O.Denot = record { opening = c.args.object; length = c.args.length } in
    let core : Core g.row.O.Denot g.row.O-Call.Denot g.row.O-Reply.Denot = record { object = c.args.object; history = c.in-Ok.history } in let h = c.in-Ok.ensures in
    subst (λ (z : Terms g.row.O.Denot × List (Option (Core g.row.O.Denot g.row.O-Call.Denot g.row.O-Reply.Denot))). Kept o.ready o.sound o.step o.opens o.fit o.heir z.0 (opening (0 ∷ []) z.1 (starting z.0)))
    (λ i. (sym c.of-about.ensures i, sym c.in-Ok-one_slot.ensures i))
    (starts o.ready o.sound o.step o.opens o.fit o.heir x core c.requires refl h.0 h.1)

pub back-requires : goal.back-requires
back-requires g c = (record { object = c.args.object; history = c.in-Ok.history }, c.in-Err-new.ensures.err ∙ c.in-Ok-one_slot.ensures, c.in-Ok.ensures.0)
