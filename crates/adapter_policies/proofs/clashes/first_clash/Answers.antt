use Rattle.std.proofs.Common.{sym, ◌∙◌, arith}
use Rattle.adapter_policies.proofs.FirstClash.{clashes_here, clashes_on}
use Rattle.adapter_policies.proofs.clashes.first_clash.Goals as goal

pub returns-then-clashes_with_one : goal.returns-then-clashes_with_one
returns-then-clashes_with_one g c =
    sym (clashes_here g.T.Clashing.clash c.args.things.now c.loop-n.n c.index-things-n.result c.loop-n-test.true (grind arith)) ∙ c.loop-n.invariant

pub loop-n-preserved : goal.loop-n-preserved
loop-n-preserved g c =
    sym (clashes_on g.T.Clashing.clash c.args.things.now c.loop-n.n c.index-things-n.result c.loop-n-test.true (grind arith)) ∙ c.loop-n.invariant
