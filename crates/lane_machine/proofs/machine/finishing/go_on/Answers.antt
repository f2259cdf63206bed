-- The thread was freed, and given the request that was taken out.
use Rattle.lane_machine.proofs.Machines.{goes_on_lists}
use Rattle.lane_machine.proofs.machine.finishing.go_on.Goals as goal

pub returns-in-Some-clause-lists : goal.returns-in-Some-clause-lists
returns-in-Some-clause-lists c =
    goes_on_lists c.args.borrowing c.args.thread c.lane-lane.result c.in-Some.place c.args.threads.now _ _
    c.args.waiting.now c.take-job.new.self c.take-job.result c.lane-lane.ensures c.free.ensures.after c.in-Some.ensures.exact
    c.take-job.ensures c.give.ensures
