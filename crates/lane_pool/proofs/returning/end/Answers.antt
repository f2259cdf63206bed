use Rattle.std.proofs.Common.{◌≡◌, ℕ, List, [], sym, subst}
use Rattle.turn_cell.specs.Numbers.{Each, Has, IsWhole}
use Rattle.turn_cell.specs.Whole.{numbers}
use Rattle.turn_cell.specs.History.{of}
use Rattle.lane_machine.specs.Callers.{heir}
use Rattle.lane_pool.specs.Pass.{Leaving}
use Rattle.lane_pool.proofs.Giving.{seen_on, all_left, all_splits, all_number}
use Rattle.lane_pool.proofs.returning.end.Goals as goal

pub close-history-requires-clause-whole : goal.close-history-requires-clause-whole
close-history-requires-clause-whole c =
    let old = c.args.main in
    let mid = c.take_all.ensures.taken.0 in
    let new = c.take_all.new.main in
    let n = all_number c.args.cell c.args.slots.items c.args.workers.items old mid new c.take_all.ensures.taken.1 c.take_all.ensures.taken.2 c.requires.main.1 in
    let s = all_splits c.args.cell c.args.slots.items c.args.workers.items old mid new c.take_all.ensures.taken.1 c.take_all.ensures.taken.2 in
    let l = all_left c.args.cell c.args.slots.items c.args.workers.items old mid new c.requires.main.2 c.take_all.ensures.taken.1 c.take_all.ensures.taken.2 in
    subst (λ (z : ℕ × ℕ × List Leaving). IsWhole heir (numbers z.0 z.1 z.2)) (λ i. (sym n i, sym s i, sym l i)) c.requires.whole

pub returns-clause-history : goal.returns-clause-history
returns-clause-history c =
    let old = c.args.main in
    let mid = c.take_all.ensures.taken.0 in
    let new = c.take_all.new.main in
    let h = c.close-history.result.1.items in
    let n = all_number c.args.cell c.args.slots.items c.args.workers.items old mid new c.take_all.ensures.taken.1 c.take_all.ensures.taken.2 c.requires.main.1 in
    let s = all_splits c.args.cell c.args.slots.items c.args.workers.items old mid new c.take_all.ensures.taken.1 c.take_all.ensures.taken.2 in
    let l = all_left c.args.cell c.args.slots.items c.args.workers.items old mid new c.requires.main.2 c.take_all.ensures.taken.1 c.take_all.ensures.taken.2 in
    record {
      good = c.close-history.ensures.good;
      calls = subst (λ (z : List Leaving). Each (λ (d : Leaving). d.calls ≡ of d.number h) z) l c.close-history.ensures.ended;
      others = subst (λ (z : ℕ × ℕ × List Leaving). (i : ℕ) → (Has i (numbers z.0 z.1 z.2) → ⊥) → of i h ≡ []) (λ i. (n i, s i, l i)) c.close-history.ensures.others;
    }

pub returns-clause-slots : goal.returns-clause-slots
returns-clause-slots c = seen_on c.take_all.new.main.seen c.close-history.result.1.items c.args.slots.items c.close-history.ensures.seen
    (seen_on c.take_all.ensures.taken.0.seen c.take_all.new.main.seen c.args.slots.items c.take_all.ensures.taken.2.later c.take_all.ensures.taken.1.seen)

pub returns-clause-workers : goal.returns-clause-workers
returns-clause-workers c = seen_on c.take_all.new.main.seen c.close-history.result.1.items c.args.workers.items c.close-history.ensures.seen c.take_all.ensures.taken.2.seen
