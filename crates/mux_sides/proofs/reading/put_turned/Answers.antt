-- The replies, from the last of the turned list.
use Rattle.mux_sides.proofs.Arriving.{turned_start, turned_more, turned_full, nothing_popped, turned_all}
use Rattle.mux_sides.proofs.reading.put_turned.Goals as goal

pub loop-count-init : goal.loop-count-init
loop-count-init g c = turned_start _ c.args.turned.items _ _ c.requires.few c.requires.reads c.requires.loses

pub loop-count-preserved : goal.loop-count-preserved
loop-count-preserved g c = turned_more _ _ _ _ _ _ _ _ _ _ c.loop-count.invariant c.in-Some.ensures.items c.put_one.ensures

pub returns-in-None : goal.returns-in-None
returns-in-None g c =
    turned_all _ _ _ _ _ _ _ c.loop-count.invariant
    (nothing_popped c.loop-count.left.items _ _ c.in-None.ensures.cases.0 c.in-None.ensures.rest c.in-None.ensures.items)

pub returns : goal.returns
returns g c = turned_full _ _ _ _ _ _ _ c.loop-count.invariant c.loop-count-test.false
