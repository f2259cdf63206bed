use Rattle.std.proofs.Common.{arith}
use Rattle.giop_messages.specs.Ranges.{HasTag}
use Rattle.giop_messages.proofs.RangeLaws.{each_next}
use Rattle.giop_messages.proofs.ranges.see_profiles.Goals as goal

pub loop-tagged-init : goal.loop-tagged-init
loop-tagged-init c k d below = absurd (omega arith)

pub loop-tagged-preserved : goal.loop-tagged-preserved
loop-tagged-preserved c =
    each_next HasTag c.args.profiles.now c.loop-tagged.tagged-index c.tagged-item.result c.loop-tagged-test.true c.tagged-item.is
    c.loop-tagged.invariant c.see_tagged.ensures

pub returns : goal.returns
returns c k d less = c.loop-tagged.invariant k d (omega (arith, c.loop-tagged-test.false))
