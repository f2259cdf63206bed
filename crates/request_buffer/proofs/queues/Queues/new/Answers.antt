-- Sixteen queues were made.
use Rattle.std.proofs.Common.{◌≡◌, subst, arith}
use Rattle.request_buffer.proofs.Spots.{Built, built_end, built_none}
use Rattle.request_buffer.proofs.queues.Queues.new.Goals as goal

pub returns-clause-stamped : goal.returns-clause-stamped
returns-clause-stamped c =
    let all : c.loop.counter ≡ 16 = omega arith in
    built_end c.args.room c.loop.lanes.items (subst (λ n. Built c.args.room n c.loop.lanes.items) all c.loop.invariant)

pub returns-clause-empty : goal.returns-clause-empty
returns-clause-empty c =
    let all : c.loop.counter ≡ 16 = omega arith in
    built_none c.args.room c.loop.lanes.items (subst (λ n. Built c.args.room n c.loop.lanes.items) all c.loop.invariant)
