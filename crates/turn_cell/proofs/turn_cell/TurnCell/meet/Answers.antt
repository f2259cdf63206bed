use Rattle.std.proofs.Common.{sym, subst}
use Rattle.turn_cell.specs.Views.{note}
use Rattle.turn_cell.specs.Tries.{IsSeated}
use mathlib.Core.Option.{none}
use Rattle.atomic_table.specs.Table.{step}
use Rattle.turn_cell.proofs.Shares.{telling_seated}
use Rattle.turn_cell.proofs.turn_cell.TurnCell.meet.Goals as goal

pub invariant_of-teller : goal.invariant_of-teller
invariant_of-teller g c = let o = g.O.Object in subst (IsSeated o.ready o.sound o.step o.opens o.fit c.teller.inside.number c.teller.inside.splits) (sym c.meet.ensures.teller.1) c.teller.invariant

pub invariant_of-hearer : goal.invariant_of-hearer
invariant_of-hearer g c = let o = g.O.Object in telling_seated o.ready o.sound o.step o.opens o.fit c.hearer.inside.number c.hearer.inside.splits (step 1 0 0 0 none) c.hearer.inside.place.me c.meet.new.hearer.me c.hear.new.place.me (note c.teller.inside.place.me.0) c.hearer.invariant c.meet.ensures.hearer.1 c.hear.ensures.hears
