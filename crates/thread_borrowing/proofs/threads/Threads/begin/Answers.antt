-- The sets stay those of the threads without a task.
use Rattle.std.proofs.Common.{◌≡◌}
use Rattle.thread_borrowing.specs.declared.task.Task.TheVariants.{Given}
use Rattle.thread_borrowing.specs.ThreadList.{task_of}
use Rattle.thread_borrowing.proofs.MarkLaws.{read_there, begun_marked}
use Rattle.thread_borrowing.proofs.threads.Threads.begin.Goals as goal

pub invariant_of-self : goal.invariant_of-self
invariant_of-self c =
    let threads = c.self.inside.threads.items in
    let at = c.args.thread in
    let x = c.index_mut.result.now in
    let there = read_there threads at c.from.result x _ (λ t. task_of t.doing ≡ Given) c.from.ensures (rw (← c.self.view_is) at c.requires.given) c.index_mut.ensures.value in
    rw (c.from.ensures, c.begin.ensures) (begun_marked threads c.self.inside.sets at x there.0 there.1 c.self.invariant)
