-- The stamp of the best names the request that is sought.
use Rattle.std.proofs.Common.{refl}
use Rattle.request_buffer.proofs.Arriving.{names_late, none_late}
use Rattle.request_buffer.proofs.buffer.Buffer.place_to_cancel.Goals as goal

pub returns-in-Some-clause-exact : goal.returns-in-Some-clause-exact
returns-in-Some-clause-exact c =
    let inside = c.self.inside in
    rw (← c.self.view_is) ((names_late c.args.conn c.args.id inside.max_requests inside.next inside.max_requests inside.max_bytes c.in-Some.spot.found.stamp inside.queues c.in-Some.spot c.self.invariant.stamped c.in-Some.ensures refl).0)

pub returns-in-Some-clause-there : goal.returns-in-Some-clause-there
returns-in-Some-clause-there c =
    let inside = c.self.inside in
    rw (← c.self.view_is) ((names_late c.args.conn c.args.id inside.max_requests inside.next inside.max_requests inside.max_bytes c.in-Some.spot.found.stamp inside.queues c.in-Some.spot c.self.invariant.stamped c.in-Some.ensures refl).1)

pub returns-in-None-clause-exact : goal.returns-in-None-clause-exact
returns-in-None-clause-exact c =
    rw (← c.self.view_is) (none_late c.args.conn c.args.id c.self.inside.next c.self.inside.queues c.in-None.ensures)
