use Rattle.trace_picture.proofs.Homes.{homes_all, few_homes}
use Rattle.trace_picture.specs.Plots.{homes_from}
use Rattle.trace_picture.proofs.layout.homes_of.Goals as goal

pub returns-clause-few : goal.returns-clause-few
returns-clause-few c =
    few_homes c.loop-l.homes.items c.args.lanes.now c.requires (homes_all (homes_from 0 c.args.lanes.now) c.loop-l.homes.items c.loop-l.l c.args.lanes.now c.loop-l-test.false c.loop-l.invariant)
