use Rattle.conn_sides.proofs.CallsMade.{nothing_popped, turned_start, next_heard, next_numbered, turned_more, turned_closed, turned_all}
use Rattle.conn_sides.proofs.calling.make_turned.Goals as goal

pub loop-call-init : goal.loop-call-init
loop-call-init g c = turned_start c.args.pool.now.cell c.args.turned.items c.args.pass.now c.requires.listens c.requires.heard c.requires.numbers

pub make-requires-clause-heard : goal.make-requires-clause-heard
make-requires-clause-heard g c = next_heard c.args.pool.now.cell _ _ _ _ _ _ c.loop-call.invariant c.in-Some.ensures.items

pub make-requires-clause-number : goal.make-requires-clause-number
make-requires-clause-number g c = next_numbered c.args.pool.now.cell _ _ _ _ _ _ c.loop-call.invariant c.in-Some.ensures.items

pub loop-call-preserved : goal.loop-call-preserved
loop-call-preserved g c = turned_more c.args.pool.now.cell _ _ _ _ _ _ _ c.loop-call.invariant c.in-Some.ensures.items c.in-Heard.ensures.made c.in-Heard.ensures.next

pub returns-in-Closing : goal.returns-in-Closing
returns-in-Closing g c = turned_closed c.args.pool.now.cell _ _ _ _ _ _ _ c.loop-call.invariant c.in-Some.ensures.items c.in-Closing.ensures.made c.in-Closing.ensures.next

pub returns : goal.returns
returns g c =
    turned_all c.args.pool.now.cell _ _ _ _ c.loop-call.invariant
    (nothing_popped c.args.pool.now.cell c.loop-call.left.items _ _ c.in_default.ensures.cases.0 c.in_default.ensures.rest c.in_default.ensures.items)
