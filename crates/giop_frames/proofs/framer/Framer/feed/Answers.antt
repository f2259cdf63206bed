use Rattle.std.proofs.Common.{Ok, Err}
use Rattle.giop_frames.proofs.Framed.{feed_ok_framed, feed_err_framed, feed_ok_tells, feed_err_tells, feed_flows, kept_bound, lasts_none}
use Rattle.giop_frames.proofs.framer.Framer.feed.Goals as goal

pub invariant_of-self-in-Ok : goal.invariant_of-self-in-Ok
invariant_of-self-in-Ok c =
    feed_ok_framed c.self.inside.fault c.self.inside.limit c.self.inside.fed.items c.and-self-inside.result.items c.args.piece.now c.args.whole.now.items c.read.new.whole.items
    c.self.inside.joiner c.read.new.self c.self.inside.left c.in-None.is c.self.invariant c.and-self-inside.ensures c.in-Ok.ensures

pub invariant_of-self-in-Err : goal.invariant_of-self-in-Err
invariant_of-self-in-Err c =
    feed_err_framed c.self.inside.fault c.in-Err.fault c.self.inside.limit c.self.inside.fed.items c.and-self-inside.result.items c.args.piece.now c.args.whole.now.items c.read.new.whole.items
    c.self.inside.joiner c.read.new.self c.clear.new.self c.self.inside.left c.left_by-self-inside.result c.in-None.is c.self.invariant c.and-self-inside.ensures c.in-Err.ensures
    c.left_by-self-inside.ensures c.clear.ensures.kept

pub returns-in-Ok-clause-tells : goal.returns-in-Ok-clause-tells
returns-in-Ok-clause-tells c =
    feed_ok_tells c.args.self.now c.self.inside.fault tt c.self.inside.limit c.self.inside.fed.items c.and-self-inside.result.items c.args.piece.now c.args.whole.now.items c.read.new.whole.items
    c.self.inside.joiner c.read.new.self c.self.inside.left _ _ c.self.view_is c.in-None.is c.self.invariant c.and-self-inside.ensures c.in-Ok.ensures

pub returns-in-Err-clause-tells : goal.returns-in-Err-clause-tells
returns-in-Err-clause-tells c =
    feed_err_tells c.args.self.now c.self.inside.fault c.in-Err.fault c.self.inside.limit c.self.inside.fed.items c.and-self-inside.result.items c.args.piece.now c.args.whole.now.items c.read.new.whole.items
    c.self.inside.joiner c.read.new.self c.self.inside.left _ _ c.self.view_is c.in-None.is c.self.invariant c.and-self-inside.ensures c.in-Err.ensures

pub returns-in-Ok-clause-kept : goal.returns-in-Ok-clause-kept
returns-in-Ok-clause-kept c = kept_bound c.self.inside.fault c.self.inside.limit c.and-self-inside.result.items c.read.new.self c.self.inside.left (invariant_of-self-in-Ok c)

pub returns-in-Ok-clause-lasts : goal.returns-in-Ok-clause-lasts
returns-in-Ok-clause-lasts c =
    lasts_none (Ok tt) c.args.self.now c.self.inside.fault c.self.inside.limit c.self.inside.fed.items c.self.inside.joiner c.self.inside.left _ c.self.view_is c.in-None.is c.self.invariant

pub returns-in-Err-clause-lasts : goal.returns-in-Err-clause-lasts
returns-in-Err-clause-lasts c =
    lasts_none (Err c.in-Err.fault) c.args.self.now c.self.inside.fault c.self.inside.limit c.self.inside.fed.items c.self.inside.joiner c.self.inside.left _ c.self.view_is c.in-None.is c.self.invariant

pub returns-in-Ok-clause-flows : goal.returns-in-Ok-clause-flows
returns-in-Ok-clause-flows c =
    feed_flows c.args.self.now c.self.inside.fault c.self.inside.limit c.self.inside.fed.items c.args.piece.now c.args.whole.now.items c.read.new.whole.items
    c.self.inside.joiner c.read.new.self c.self.view_is c.in-Ok.ensures
