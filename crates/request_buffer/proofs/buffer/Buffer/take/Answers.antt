-- A request that a place names leaves its queue, and the counts.
use Rattle.std.proofs.Common.{sym, rules}
use Rattle.request_buffer.proofs.Arriving.{is_stamp}
use Rattle.request_buffer.proofs.Bounding.{some_waits, bytes_cover, bounded_taken, is_taken}
use Rattle.request_buffer.proofs.Spots.{within_queue}
use Rattle.request_buffer.proofs.buffer.Buffer.take.Goals as goal

pub named-spot-requires-clause-there : goal.named-spot-requires-clause-there
named-spot-requires-clause-there c =
    let inside = c.self.inside in
    let requires = rw (← c.self.view_is) at c.requires.there in
    is_stamp inside.next inside.max_requests inside.max_bytes c.args.place inside.queues requires

pub take-requires : goal.take-requires
take-requires c =
    record { there = within_queue c.self.inside.queues _ _ c.named-spot.ensures.entry c.named-spot.ensures.stands }

pub overflow_sub-self : goal.overflow_sub-self
overflow_sub-self c =
    let inside = c.self.inside in
    some_waits inside.queues c.take.new.self inside.next inside.requests inside.bytes inside.max_requests inside.max_bytes _ _ c.take.result c.self.invariant c.take.ensures

pub overflow_sub-self-2 : goal.overflow_sub-self-2
overflow_sub-self-2 c =
    let inside = c.self.inside in
    bytes_cover inside.queues c.take.new.self inside.next inside.requests inside.bytes inside.max_requests inside.max_bytes _ c.args.place _ _ c.take.result c.self.invariant c.named-spot.ensures c.take.ensures (search rules)

pub invariant_of-self : goal.invariant_of-self
invariant_of-self c =
    let inside = c.self.inside in
    bounded_taken inside.queues c.take.new.self inside.next inside.requests inside.bytes inside.max_requests inside.max_bytes _ c.args.place _ _ c.take.result c.self.invariant c.named-spot.ensures c.take.ensures (search rules)

pub returns : goal.returns
returns c =
    let inside = c.self.inside in
    rw (← c.self.view_is) (is_taken inside.queues c.take.new.self inside.max_requests inside.next inside.max_requests inside.max_bytes c.args.place _ _ c.take.result c.into_job-job.result c.self.invariant.stamped c.named-spot.ensures c.take.ensures (sym c.into_job-job.ensures))
