-- The thread that a probe finds is the one found down the lanes.
use Rattle.std.proofs.Common.{ℕ, ◌+◌, ◌-◌, ◌<◌, ◌==◌, not, get_or, refl, sym, arith}
use Rattle.orb_base.specs.declared.limits.TheConstants.{MAX_LANES}
use Rattle.thread_borrowing.proofs.DownLaws.{no_set, set_at, descent_start, descent_step, none_chosen_down, IsChoice, choice_down}
use Rattle.thread_borrowing.proofs.threads.Threads.choose_counted.Given.{Over}
use Rattle.thread_borrowing.proofs.threads.Threads.choose_counted.Goals as goal
use Rattle.thread_borrowing.proofs.threads.Threads.choose_counted.Goals.{In-Some}

pub loop-at-init : goal.loop-at-init
loop-at-init g c = descent_start _ _ _ _ _ c.self.invariant.placed (omega (arith, c.min-at.ensures))

pub loop-at-preserved : goal.loop-at-preserved
loop-at-preserved g c =
    let next : ℕ = c.loop-at.at - 1 in
    let small : next < MAX_LANES = omega (arith, c.min-at.ensures) in
    let threads = c.self.inside.threads.items in
    rw c.probe.ensures.step (descent_step threads (get_or c.self.inside.sets next no_set) _ _ c.loop-at.at next _ c.loop-at.steps (omega arith) (omega arith)
    (set_at next threads c.self.inside.sets c.self.invariant.sets_of small) c.in_default.ensures.value c.loop-at.invariant)

found : (g : Over) (c : In-Some g) → IsChoice c.args.borrowing c.from-lane.result c.self.inside.threads.items
    (record { thread = c.in-Some.thread; lent = not ((c.loop-at.at - 1) == c.from-lane.result); starts = c.in-Some.starts }) c.args.steps.now (c.loop-at.steps + 1)
found g c = choice_down c.args.borrowing c.self.inside.threads.items c.self.inside.sets c.from-lane.result c.lowest_for-lowest.result c.loop-at.at (c.loop-at.at - 1) c.args.steps.now c.loop-at.steps _
    c.lowest_for-lowest.ensures (omega arith) (omega arith) (omega (arith, c.min-at.ensures)) (omega (arith, c.min-at.ensures)) refl c.self.invariant.placed c.self.invariant.sets_of c.in-Some.ensures.value c.loop-at.invariant

pub returns-in-Some-clause-exact : goal.returns-in-Some-clause-exact
returns-in-Some-clause-exact g c = rw (← c.from-lane.ensures, ← c.self.view_is) (sym (found g c).exact)

pub returns-in-Some-clause-suits : goal.returns-in-Some-clause-suits
returns-in-Some-clause-suits g c = rw (← c.from-lane.ensures, ← c.self.view_is) ((found g c).suits)

pub returns-in-Some-clause-reached : goal.returns-in-Some-clause-reached
returns-in-Some-clause-reached g c = rw (← c.from-lane.ensures, ← c.self.view_is, c.probe.ensures.step) ((found g c).reached)

pub returns-clause-exact : goal.returns-clause-exact
returns-clause-exact g c = rw (← c.from-lane.ensures, ← c.self.view_is) (none_chosen_down c.args.borrowing _ _ _ _ _ _ c.lowest_for-lowest.ensures (omega arith) c.loop-at.invariant)
