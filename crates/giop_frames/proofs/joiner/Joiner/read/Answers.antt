use Rattle.giop_frames.proofs.JoinParts.{so_far_none, so_far_more, so_far_err}
use Rattle.giop_frames.proofs.joiner.Joiner.read.Goals as goal

pub loop-taken-init : goal.loop-taken-init
loop-taken-init c = so_far_none c.args.input.now c.args.whole.now.items c.args.self.now c.requires.resting

pub loop-taken-preserved : goal.loop-taken-preserved
loop-taken-preserved c =
    so_far_more c.loop-taken.taken c.in-Ok.n c.args.input.now c.args.whole.now.items c.loop-taken.whole.items c.take_some.new.whole.items
    c.args.self.now c.loop-taken.self c.take_some.new.self c.loop-taken.invariant c.in-Ok.ensures

pub returns-in-Err : goal.returns-in-Err
returns-in-Err c =
    so_far_err c.in-Err.fault c.loop-taken.taken c.args.input.now c.args.whole.now.items c.loop-taken.whole.items c.take_some.new.whole.items
    c.args.self.now c.loop-taken.self c.take_some.new.self c.loop-taken.invariant c.in-Err.ensures
