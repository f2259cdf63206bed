use Rattle.adapter_policies.proofs.Rising.{risen}
use Rattle.adapter_policies.proofs.map_relations.rising_rows.Goals as goal

pub returns : goal.returns
returns c =
    risen c.loop-row.before c.args.rows.now c.loop-row.row-index c.loop-row.made.items c.loop-row-test.false c.loop-row.invariant.same c.loop-row.invariant.whole
