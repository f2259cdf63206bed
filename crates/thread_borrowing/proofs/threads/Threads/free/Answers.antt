-- The sets stay those of the threads without a task.
use Rattle.std.proofs.Common.{◌≡◌, ap, ◌∙◌}
use Rattle.thread_borrowing.specs.declared.task.Task.TheVariants.{Busy}
use Rattle.thread_borrowing.specs.ThreadList.{task_of}
use Rattle.thread_borrowing.specs.Choice.{standing}
use Rattle.thread_borrowing.proofs.MarkLaws.{read_there, freed_marked}
use Rattle.thread_borrowing.proofs.threads.Threads.free.Goals as goal

pub invariant_of-self : goal.invariant_of-self
invariant_of-self c =
    let threads = c.self.inside.threads.items in
    let at = c.args.thread in
    let x = c.index_mut-freed.result.now in
    let lane = c.lane_of-lane.result in
    let there = read_there threads at c.from.result x _ (λ t. task_of t.doing ≡ Busy) c.from.ensures (rw (← c.self.view_is) at c.requires.busy) c.index_mut-freed.ensures.value in
    let of_lane = read_there threads at c.from.result x _ (λ t. lane ≡ t.lane) c.from.ensures (rw (← c.self.view_is) at c.lane_of-lane.ensures.lane) c.index_mut-freed.ensures.value in
    rw (c.from.ensures, c.free-job.ensures.after) (freed_marked threads c.self.inside.sets at lane x c.standing.result _ there.0 of_lane.1 there.1 (c.standing.ensures ∙ ap standing c.free-job.ensures.after) c.put.ensures c.self.invariant)
