use Rattle.std.proofs.Common.{◌≤◌, ◌<◌, sym, ◌∙◌, arith}
use Rattle.orb_base.proofs.ApartLaws.{climb_goes, climb_stops, climb_ends, le_if, lt_if_not}
use Rattle.orb_base.proofs.apart.climb.Goals as goal

pub returns-then-le : goal.returns-then-le
returns-then-le c =
    let le = le_if c.low.result c.high.result c.le.result c.le.ensures c.if-le.true in
    let touch : c.index-bands-at.result.low ≤ c.index-bands-at-in-loop-at.result.high = omega (
      arith,
      le,
      c.low.ensures,
      c.high.ensures,
    ) in
    sym (climb_stops c.args.bands.now c.loop-at.at c.index-bands-at-in-loop-at.result c.index-bands-at.result
    c.loop-at.invariant.some c.loop-at-test.true c.index-bands-at-in-loop-at.is c.index-bands-at.is touch)
    ∙ c.loop-at.invariant.behind

pub loop-at-preserved : goal.loop-at-preserved
loop-at-preserved c =
    let lt = lt_if_not c.low.result c.high.result c.le.result c.le.ensures c.if-le.false in
    let below : c.index-bands-at-in-loop-at.result.high < c.index-bands-at.result.low = omega (
      arith,
      lt,
      c.low.ensures,
      c.high.ensures,
    ) in
    record {
      behind = sym (climb_goes c.args.bands.now c.loop-at.at c.index-bands-at-in-loop-at.result
          c.index-bands-at.result c.loop-at.invariant.some c.loop-at-test.true c.index-bands-at-in-loop-at.is
          c.index-bands-at.is below)
          ∙ c.loop-at.invariant.behind;
      some = omega arith;
    }

pub returns : goal.returns
returns c = sym (climb_ends c.args.bands.now c.loop-at.at c.loop-at-test.false) ∙ c.loop-at.invariant.behind
