use Rattle.std.proofs.Common.{sym, ◌∙◌, arith}
use Rattle.banded_links.proofs.Apart.{apart_next, apart_stops, apart_all}
use Rattle.banded_links.proofs.bands.are_apart.Goals as goal

pub returns-then-shares_with_one : goal.returns-then-shares_with_one
returns-then-shares_with_one c =
    apart_stops c.args.bands.now c.loop-at.at c.index-bands-at.result _ c.loop-at-test.true c.index-bands-at.is
    (sym c.shares_with_one.ensures ∙ c.if-shares_with_one.true) c.loop-at.invariant

pub loop-at-preserved : goal.loop-at-preserved
loop-at-preserved c =
    apart_next c.args.bands.now c.loop-at.at c.index-bands-at.result _ c.loop-at-test.true c.index-bands-at.is
    (sym c.shares_with_one.ensures ∙ c.if-shares_with_one.false) c.loop-at.invariant

pub returns : goal.returns
returns c = apart_all c.args.bands.now c.loop-at.at _ (omega arith) c.loop-at.invariant
