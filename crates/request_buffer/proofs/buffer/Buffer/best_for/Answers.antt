-- The stamp of the best names the request that is sought.
use Rattle.std.proofs.Common.{refl}
use Rattle.request_buffer.proofs.Arriving.{names_next, none_next}
use Rattle.request_buffer.proofs.buffer.Buffer.best_for.Goals as goal

pub returns-in-Some-clause-exact : goal.returns-in-Some-clause-exact
returns-in-Some-clause-exact c =
    let inside = c.self.inside in
    rw (← c.self.view_is) ((names_next c.args.borrowing c.args.lane inside.max_requests inside.next inside.max_requests inside.max_bytes c.in-Some.spot.found.stamp inside.queues c.in-Some.spot c.self.invariant.stamped c.in-Some.ensures refl).0)

pub returns-in-Some-clause-there : goal.returns-in-Some-clause-there
returns-in-Some-clause-there c =
    let inside = c.self.inside in
    rw (← c.self.view_is) ((names_next c.args.borrowing c.args.lane inside.max_requests inside.next inside.max_requests inside.max_bytes c.in-Some.spot.found.stamp inside.queues c.in-Some.spot c.self.invariant.stamped c.in-Some.ensures refl).1)

pub returns-in-None-clause-exact : goal.returns-in-None-clause-exact
returns-in-None-clause-exact c =
    rw (← c.self.view_is) (none_next c.args.borrowing c.args.lane c.self.inside.next c.self.inside.queues c.in-None.ensures)
