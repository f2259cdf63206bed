-- Each Next, and the one with which the writer comes out.
use Rattle.std.proofs.Common.{sym, subst}
use Rattle.orb_base.specs.Outside.{SinkState}
use Rattle.mux_sides.specs.Sending.{WritesSide}
use Rattle.mux_sides.proofs.Sending.{sent_start, sent_more, sent_last}
use Rattle.mux_sides.proofs.writing.write_side.Goals as goal

pub loop-init : goal.loop-init
loop-init g c = sent_start _ _ _ c.requires.sends c.requires.loses

pub loop-preserved : goal.loop-preserved
loop-preserved g c = sent_more _ _ _ _ _ _ _ _ c.loop.invariant c.take-upcoming.ensures.made c.take-upcoming.ensures.sends c.take-upcoming.ensures.loses c.in-None-say.ensures

pub loop-preserved-in-None-say : goal.loop-preserved-in-None-say
loop-preserved-in-None-say g c = sent_more _ _ _ _ _ _ _ _ c.loop.invariant c.take-upcoming.ensures.made c.take-upcoming.ensures.sends c.take-upcoming.ensures.loses c.in-None-say.ensures

pub returns-in-Some-say : goal.returns-in-Some-say
returns-in-Some-say g c =
    subst (λ (s : SinkState). WritesSide c.in-Some-say.end c.args.seat.now c.lose_by.new.seat (g.O.Sink.state c.args.sink.now) s) (sym c.close.ensures)
    (sent_last _ c.in-Some-say.end _ _ _ _ _ _ _ _ c.loop.invariant c.take-upcoming.ensures.made c.in-Some-say.ensures c.lose_by.ensures)
