use Rattle.std.proofs.Common.{rules, arith, sym, ap, subst, ◌∙◌, ◌∷◌, Some}
use Rattle.atomic_table.specs.Table.{rest}
use Rattle.turn_cell.specs.Steps.{MayGo}
use Rattle.turn_cell.proofs.Keeps.{gives_turn}
use Rattle.turn_cell.proofs.cell.Board.give.Goals as goal

pub store-requires : goal.store-requires
store-requires g c = let e = c.exchange.ensures.3 in let p = c.requires.place in let k = c.requires.core in (
  search rules,
  search rules,
  gives_turn _ _ _ _ _ _ _ _ _ _ c.args.core _
      (ap (λ m. m.0.turn) e ∙ p.1)
      (ap (λ m. m.1) e ∙ ap (λ l. (0, Some c.args.core) ∷ rest l) p.2)
      (subst (λ z. MayGo g.O.Object.ready g.O.Object.sound g.O.Object.step g.O.Object.opens g.O.Object.fit z c.args.core) (sym (ap (λ m. m.0) e)) k)
      (omega (arith, c.len.ensures)),
)
