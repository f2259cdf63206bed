use Rattle.std.proofs.Common.{sym, ap, subst, ◌∙◌}
use Rattle.turn_cell.specs.Steps.{MayGo}
use Rattle.turn_cell.specs.Tries.{Tries}
use Rattle.turn_cell.specs.Views.{resting}
use Rattle.turn_cell.proofs.Runs.{goes, tells, sound_here}
use Rattle.turn_cell.proofs.cell.Board.attempt.Goals as goal

pub run-tried-requires : goal.run-tried-requires
run-tried-requires g c = let o = g.O.Object in let t = c.in-Some.ensures.some in λ _. sound_here o.ready o.sound o.step o.opens o.fit c.args.self.now.table.shared.key.value c.args.number c.args.call g.met.O.Object.enough c.args.place.now.me.0 t.0 c.in-Some.core c.requires.sits t.3 c.requires.fit

pub give-requires-clause-core : goal.give-requires-clause-core
give-requires-clause-core g c = let o = g.O.Object in let t = c.in-Some.ensures.some in
    subst (λ m. MayGo o.ready o.sound o.step o.opens o.fit m.0 c.run-tried.new.core) (sym t.1)
    (goes o.ready o.sound o.step o.opens o.fit c.args.self.now.table.shared.key.value c.args.number c.args.call c.args.place.now.me.0 t.0 c.in-Some.core c.run-tried.new.core c.run-tried.result c.requires.sits t.3
    (λ _. sound_here o.ready o.sound o.step o.opens o.fit c.args.self.now.table.shared.key.value c.args.number c.args.call g.met.O.Object.enough c.args.place.now.me.0 t.0 c.in-Some.core c.requires.sits t.3 c.requires.fit)
    c.requires.fit c.run-tried.ensures)

pub returns-in-Some-clause-tells : goal.returns-in-Some-clause-tells
returns-in-Some-clause-tells g c = let o = g.O.Object in let t = c.in-Some.ensures.some in
    let may = goes o.ready o.sound o.step o.opens o.fit c.args.self.now.table.shared.key.value c.args.number c.args.call c.args.place.now.me.0 t.0 c.in-Some.core c.run-tried.new.core c.run-tried.result c.requires.sits t.3
    (λ _. sound_here o.ready o.sound o.step o.opens o.fit c.args.self.now.table.shared.key.value c.args.number c.args.call g.met.O.Object.enough c.args.place.now.me.0 t.0 c.in-Some.core c.requires.sits t.3 c.requires.fit)
    c.requires.fit c.run-tried.ensures in
    subst (λ w. Tries o.ready o.sound o.step o.opens o.fit c.args.self.now.table.shared.key.value c.args.number c.args.call c.args.place.now.me.0 w c.run-tried.result)
    (sym (ap (λ m. m.0) c.give.ensures.rests ∙ ap (λ m. resting m.0 c.run-tried.new.core.history.list.items) t.1))
    (tells o.ready o.sound o.step o.opens o.fit c.args.self.now.table.shared.key.value c.args.number c.args.call c.args.place.now.me.0 t.0 c.in-Some.core c.run-tried.new.core c.run-tried.result c.requires.sits t.3 may c.run-tried.ensures)
