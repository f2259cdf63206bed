-- The calls, from the last of the turned list.
use Rattle.halls.proofs.Feeding.{turned_start, next_there, turned_more, turned_closed, turned_stopped, nothing_popped, turned_all}
use Rattle.halls.proofs.pieces.take_turned.Goals as goal

pub loop-call-init : goal.loop-call-init
loop-call-init g c = record { of = c.requires.of; so_far = turned_start _ c.args.turned.items _ c.requires.there }

pub take-requires-clause-there : goal.take-requires-clause-there
take-requires-clause-there g c = next_there _ _ _ _ _ _ _ c.loop-call.invariant.so_far c.in-Some.ensures.items

pub loop-call-preserved : goal.loop-call-preserved
loop-call-preserved g c = record {
  of = c.in-All.ensures.of;
  so_far = turned_more _ _ _ _ _ _ _ _ c.loop-call.invariant.so_far c.in-Some.ensures.items c.in-All.ensures.takes;
}

pub returns-in-RunClosed-clause-takes : goal.returns-in-RunClosed-clause-takes
returns-in-RunClosed-clause-takes g c = turned_closed _ _ _ _ _ _ _ _ c.loop-call.invariant.so_far c.in-Some.ensures.items c.in-RunClosed.ensures.takes

pub returns-in-Stopped-clause-takes : goal.returns-in-Stopped-clause-takes
returns-in-Stopped-clause-takes g c = turned_stopped _ _ _ _ _ _ _ _ c.loop-call.invariant.so_far c.in-Some.ensures.items c.in-Stopped.ensures.takes

pub returns-clause-takes : goal.returns-clause-takes
returns-clause-takes g c =
    turned_all _ _ _ _ _ c.loop-call.invariant.so_far
    (nothing_popped c.loop-call.left.items _ _ c.in_default.ensures.cases.0 c.in_default.ensures.rest c.in_default.ensures.items)
