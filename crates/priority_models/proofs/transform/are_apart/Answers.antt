-- Each row is tested against those after it.
use Rattle.std.proofs.Common.{sym, ap, ◌∙◌, arith, drop, length}
use Rattle.std.proofs.lemmas.List.{drop_all}
use Rattle.priority_models.proofs.Rows.{apart_goes, apart_of_none, apart_stops}
use Rattle.priority_models.proofs.transform.are_apart.Goals as goal

pub returns-then-meets_one : goal.returns-then-meets_one
returns-then-meets_one c =
    sym (apart_stops c.args.rows.now c.loop-at.at c.index-rows-at.result c.loop-at-test.true (sym c.meets_one.ensures ∙ c.if-meets_one.true)) ∙ c.loop-at.invariant

pub loop-at-preserved : goal.loop-at-preserved
loop-at-preserved c =
    sym (apart_goes c.args.rows.now c.loop-at.at c.index-rows-at.result c.loop-at-test.true (sym c.meets_one.ensures ∙ c.if-meets_one.false)) ∙ c.loop-at.invariant

-- after the last row there is none
pub returns : goal.returns
returns c = sym (apart_of_none c.args.rows.now c.loop-at.at (omega arith)) ∙ c.loop-at.invariant
