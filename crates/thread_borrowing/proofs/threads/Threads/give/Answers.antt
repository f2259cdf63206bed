-- The sets stay those of the threads without a task.
use Rattle.std.proofs.Common.{◌≡◌, true}
use Rattle.thread_borrowing.specs.ThreadList.{is_free}
use Rattle.thread_borrowing.proofs.MarkLaws.{read_there, given_marked}
use Rattle.thread_borrowing.proofs.threads.Threads.give.Goals as goal

pub invariant_of-self : goal.invariant_of-self
invariant_of-self c =
    let threads = c.self.inside.threads.items in
    let at = c.args.thread in
    let x = c.index_mut.result.now in
    let lane = c.lane_of-lane.result in
    let there = read_there threads at c.from.result x _ (λ t. is_free t.doing ≡ true) c.from.ensures (rw (← c.self.view_is) at c.requires.free) c.index_mut.ensures.value in
    let of_lane = read_there threads at c.from.result x _ (λ t. lane ≡ t.lane) c.from.ensures (rw (← c.self.view_is) at c.lane_of-lane.ensures.lane) c.index_mut.ensures.value in
    rw (c.from.ensures, c.give.ensures) (given_marked threads c.self.inside.sets at lane x c.args.job _ there.0 of_lane.1 c.remove.ensures c.self.invariant)
