use Rattle.std.proofs.Common.{arith}
use Rattle.orb_base.proofs.ApartLaws.{ordered_next}
use Rattle.orb_base.proofs.apart.see_ordered.Goals as goal

pub loop-band-init : goal.loop-band-init
loop-band-init c k d below = absurd (omega arith)

pub loop-band-preserved : goal.loop-band-preserved
loop-band-preserved c =
    ordered_next c.args.bands.now c.loop-band.band-index c.band-item.result c.loop-band-test.true c.band-item.is
    c.loop-band.invariant c.low.ensures.ordered

pub returns : goal.returns
returns c k d less = c.loop-band.invariant k d (omega (arith, c.loop-band-test.false))
