-- One more request got its stamp, and in the end all have.
use Rattle.std.proofs.Common.{◌+◌, ◌-◌, ◌<◌, arith}
use Rattle.std.proofs.lemmas.Option.{MatchOption-at_none}
use Rattle.request_buffer.specs.declared.sought.Sought.TheVariants.{From}
use Rattle.request_buffer.specs.Entries.{entries}
use Rattle.request_buffer.specs.Finding.{IsBest, NoneIn}
use Rattle.request_buffer.proofs.Renumbering.{so_far_more, so_far_below, so_far_end}
use Rattle.request_buffer.proofs.queues.renumber.Goals as goal

pub overflow_add-count : goal.overflow_add-count
overflow_add-count c =
    let best : IsBest (From c.loop-spot.count) c.loop-spot.queues c.in-Some.spot = c.in-Some.ensures in
    let below = so_far_below c.args.room c.args.next c.loop-spot.count c.args.queues.now c.loop-spot.queues c.in-Some.spot c.loop-spot.invariant best in
    omega arith

pub loop-spot-smaller : goal.loop-spot-smaller
loop-spot-smaller c =
    let best : IsBest (From c.loop-spot.count) c.loop-spot.queues c.in-Some.spot = c.in-Some.ensures in
    let below = so_far_below c.args.room c.args.next c.loop-spot.count c.args.queues.now c.loop-spot.queues c.in-Some.spot c.loop-spot.invariant best in
    let smaller : c.args.next - (c.loop-spot.count + 1) < c.args.next - c.loop-spot.count = omega arith in
    smaller

pub loop-spot-preserved : goal.loop-spot-preserved
loop-spot-preserved c =
    let best : IsBest (From c.loop-spot.count) c.loop-spot.queues c.in-Some.spot = c.in-Some.ensures in
    so_far_more c.args.room c.args.next c.loop-spot.count c.args.queues.now c.loop-spot.queues c.restamp.new.self c.in-Some.spot c.loop-spot.invariant best (c.restamp.ensures best.entry best.stands)

pub returns-clause-renumbered : goal.returns-clause-renumbered
returns-clause-renumbered c =
    let none : NoneIn (From c.loop-spot.count) (entries c.loop-spot.queues) = MatchOption-at_none _ _ c.in_default.is c.best.ensures in
    (so_far_end c.args.room c.args.next c.loop-spot.count c.args.queues.now c.loop-spot.queues c.loop-spot.invariant none).0

pub returns-clause-few : goal.returns-clause-few
returns-clause-few c =
    let none : NoneIn (From c.loop-spot.count) (entries c.loop-spot.queues) = MatchOption-at_none _ _ c.in_default.is c.best.ensures in
    (so_far_end c.args.room c.args.next c.loop-spot.count c.args.queues.now c.loop-spot.queues c.loop-spot.invariant none).1
