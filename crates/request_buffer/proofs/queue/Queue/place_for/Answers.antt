-- The priorities fall along the queue, so those that are no lower are before the others.
use Rattle.std.proofs.Common.{rules, leb}
use Rattle.std.proofs.lemmas.List.Sorted.{IsPartitionPoint-from_clause}
use Rattle.request_buffer.proofs.Searching.{falls, no_lower, lower}
use Rattle.request_buffer.proofs.queue.Queue.place_for.Goals as goal

pub returns-clause-before : goal.returns-clause-before
returns-clause-before c =
    let items = c.self.inside.inner.items in
    let ordered = rw (← c.self.view_is) at c.requires.in_order in
    let point = IsPartitionPoint-from_clause (λ e. leb c.args.priority e.job.priority) items _ c.partition_point.ensures.partitioned (falls items c.args.priority ordered) (λ a r q k. search rules) in
    rw (← c.self.view_is) (no_lower items c.args.priority c.partition_point.result point)

pub returns-clause-after : goal.returns-clause-after
returns-clause-after c =
    let items = c.self.inside.inner.items in
    let ordered = rw (← c.self.view_is) at c.requires.in_order in
    let point = IsPartitionPoint-from_clause (λ e. leb c.args.priority e.job.priority) items _ c.partition_point.ensures.partitioned (falls items c.args.priority ordered) (λ a r q k. search rules) in
    rw (← c.self.view_is) (lower items c.args.priority c.partition_point.result point)
