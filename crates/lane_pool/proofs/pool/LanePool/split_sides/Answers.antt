use Rattle.std.proofs.Common.{◌<◌, ◌≤◌, ℕ, sym, ap, subst, arith}
use Rattle.lane_machine.specs.Callers.{writer_seat}
use Rattle.lane_pool.specs.Pass.{Pass, Pool}
use Rattle.lane_pool.proofs.Heirs.{heir_of_slot}
use Rattle.lane_pool.proofs.pool.LanePool.split_sides.Goals as goal

pub split-requires-clause-heir : goal.split-requires-clause-heir
split-requires-clause-heir c =
    let i = c.pass.inside in
    let v = c.pass.invariant in
    let nth : i.links < c.args.self.now.cell.terms.opening.per_slot = subst (λ (k : ℕ). k < c.args.self.now.cell.terms.opening.per_slot) (sym (ap (λ (p : Pass). p.nth) c.pass.view_is)) c.requires.room in
    let few : c.args.self.now.cell.terms.opening.per_slot ≤ 128 = subst (λ (p : Pool). p.cell.terms.opening.per_slot ≤ 128) c.self.view_is c.self.invariant.1 in
    (writer_seat (record { slot = i.slot; nth = i.links }), heir_of_slot i.seat.number i.slot i.seat.splits i.links v.0 v.1 v.2 (omega arith))
