use Rattle.std.proofs.Common.{sym, subst, ◌∙◌, ◌≡◌, ℕ}
use Rattle.std.proofs.lemmas.Option.{same_Some}
use mathlib.Core.Option.{some-injective}
use Rattle.turn_cell.specs.Numbers.{IsWhole}
use Rattle.turn_cell.specs.Whole.{numbers, Ends}
use Rattle.turn_cell.proofs.Closes.{closes, Some-ne-None}
use Rattle.turn_cell.proofs.cell.Board.close.Goals as goal

pub unreachable-requires : goal.unreachable-requires
unreachable-requires g c = let o = g.O.Object in let w = c.requires.whole in
    let z = closes o.ready o.sound o.step o.opens o.fit o.heir c.args.self.table.shared.key.value c.args.place.id c.args.place.me.0 w.0 _ _ w.1 c.requires.place.1 w.2 c.close_with-closed.ensures.values.2 in
    Some-ne-None z.0 (some-injective _ _ (sym z.1 ∙ c.take-slot.ensures.value) ∙ c.in-None.is)

pub returns : goal.returns
returns g c = let o = g.O.Object in let w = c.requires.whole in λ n number.
    let same : w.0 ≡ n = same_Some _ _ (sym w.1 ∙ number) in
    let z = closes o.ready o.sound o.step o.opens o.fit o.heir c.args.self.table.shared.key.value c.args.place.id c.args.place.me.0 n _ _ number c.requires.place.1
    (subst (λ (k : ℕ). IsWhole o.heir (numbers k c.args.place.me.0.splits c.args.place.me.0.ended)) same w.2) c.close_with-closed.ensures.values.2 in
    subst (λ k. Ends o.ready o.sound o.step o.opens o.fit c.args.self.table.shared.key.value n c.args.place.me.0 k) (same_Some _ _ (some-injective _ _ (sym z.1 ∙ c.take-slot.ensures.value) ∙ c.in-Some.is)) z.2
