use Rattle.conn_sides.specs.declared.read_side_end.ReadSideEnd.TheVariants as side
use Rattle.conn_sides.proofs.Ends.{side_ended}
use Rattle.conn_sides.proofs.ReadRuns.{wants_first}
use Rattle.conn_sides.proofs.reading.refuse_side.Goals as goal

pub returns-clause-side : goal.returns-clause-side
returns-clause-side g c = λ from.
    side_ended c.args.pool.now.cell c.args.setup.now side.NoMemory c.how_by.result c.args.pass.now c.args.pass.now c.end.new.pass from from
    (wants_first c.args.pool.now.cell c.args.setup.now c.args.pass.now from c.requires.listens) c.requires.listens.reads c.how_by.ensures c.end.ensures.made
