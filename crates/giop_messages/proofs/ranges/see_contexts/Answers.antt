use Rattle.std.proofs.Common.{arith}
use Rattle.giop_messages.specs.Ranges.{HasId}
use Rattle.giop_messages.proofs.RangeLaws.{each_next}
use Rattle.giop_messages.proofs.ranges.see_contexts.Goals as goal

pub loop-context-init : goal.loop-context-init
loop-context-init c k d below = absurd (omega arith)

pub loop-context-preserved : goal.loop-context-preserved
loop-context-preserved c =
    each_next HasId c.args.contexts.now c.loop-context.context-index c.context-item.result c.loop-context-test.true c.context-item.is
    c.loop-context.invariant c.see_context.ensures

pub returns : goal.returns
returns c k d less = c.loop-context.invariant k d (omega (arith, c.loop-context-test.false))
