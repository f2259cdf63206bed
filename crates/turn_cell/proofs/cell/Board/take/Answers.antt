use Rattle.std.proofs.Common.{rules, sym, ap, subst, refl, ◌∙◌, ◌≡◌, ◌∷◌, Some, None}
use Rattle.std.proofs.lemmas.Option.{same_Some}
use Rattle.atomic_table.specs.Table.{rest}
use Rattle.turn_cell.specs.Views.{looking}
use Rattle.turn_cell.specs.Steps.{Learns}
use Rattle.turn_cell.proofs.Keeps.{takes_turn, hand, even_if}
use Rattle.turn_cell.proofs.cell.Board.take.Goals as goal

pub compare_exchange-requires : goal.compare_exchange-requires
compare_exchange-requires g c = (search rules, search rules, takes_turn _ _ _ _ _ _ _ _ _ _ _ _ _ c.requires.number.1 (even_if c.peek-word.result c.if-word-eq1.false) refl)

pub exchange-requires : goal.exchange-requires
exchange-requires g c = let t = c.compare_exchange.ensures.2.0 c.if-compare_exchange-word.false in
    let has = ap (λ m. m.1) t.2 in (search rules, (Some t.1, has ∙ ap (λ l. (0, Some t.1) ∷ l) (sym (ap rest has))))

pub returns-clause-some : goal.returns-clause-some
returns-clause-some g c = let t = c.compare_exchange.ensures.2.0 c.if-compare_exchange-word.false in let e = c.exchange.ensures in
    let same : t.1 ≡ c.in-Some.core = same_Some _ _ (ap hand (sym (ap (λ m. m.1) t.2) ∙ e.2) ∙ c.in-Some.is) in (
      t.0,
      e.3 ∙ (ap (λ m. (m.0, (0, None) ∷ rest m.1)) t.2 ∙ ap (λ l. (looking c.args.place.now.me.0 t.0, (0, None) ∷ l)) c.requires.place.1),
      sym c.if-compare_exchange-word.false ∙ t.3,
      subst (λ z. Learns g.O.Object.ready g.O.Object.sound g.O.Object.step g.O.Object.opens g.O.Object.fit c.args.place.now.me.0 t.0 z) same t.4,
    )
