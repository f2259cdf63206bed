use Rattle.conn_sides.proofs.Ends.{side_ended}
use Rattle.conn_sides.proofs.reading.read_side.Goals as goal

pub returns-clause-side : goal.returns-clause-side
returns-clause-side g c =
    side_ended c.args.pool.now.cell c.args.setup.now c.hear_all-end.result c.how_by.result c.args.pass.now c.hear_all-end.new.pass c.end.new.pass
    (g.I.Source.state c.args.source.now) (g.I.Source.state c.hear_all-end.new.source) c.hear_all-end.ensures.hears c.hear_all-end.ensures.reads c.how_by.ensures c.end.ensures.made
