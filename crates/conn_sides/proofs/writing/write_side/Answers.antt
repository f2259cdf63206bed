use Rattle.conn_sides.specs.declared.write_end.LastCollect.TheVariants as last
use Rattle.conn_sides.proofs.Collecting.{said_start, said_item, said_last}
use Rattle.conn_sides.proofs.writing.write_side.Goals as goal

pub loop-init : goal.loop-init
loop-init g c = said_start c.args.pool.now.cell c.args.pass.now (g.O.Sink.state c.args.sink.now) c.requires

pub loop-preserved : goal.loop-preserved
loop-preserved g c =
    said_item c.args.pool.now.cell c.loop.wrote c.say-wrote.result c.in-Item.item c.args.pass.now c.loop.pass c.collect.new.pass (g.O.Sink.state c.args.sink.now) (g.O.Sink.state c.loop.sink)
    (g.O.Sink.state c.say-wrote.new.sink) c.loop.invariant c.in-Item.ensures.made c.in-Item.ensures.next c.say-wrote.ensures

pub returns-in-Close : goal.returns-in-Close
returns-in-Close g c =
    said_last c.args.pool.now.cell c.loop.wrote c.end_with.result last.Close c.args.pass.now c.loop.pass c.collect.new.pass (g.O.Sink.state c.args.sink.now) (g.O.Sink.state c.loop.sink)
    (g.O.Sink.state c.end_with.new.sink) c.loop.invariant c.in-Close.ensures.made c.end_with.ensures.last c.end_with.ensures.says

pub returns-in-Error : goal.returns-in-Error
returns-in-Error g c =
    said_last c.args.pool.now.cell c.loop.wrote c.end_with-in-Error.result last.Error c.args.pass.now c.loop.pass c.collect.new.pass (g.O.Sink.state c.args.sink.now) (g.O.Sink.state c.loop.sink)
    (g.O.Sink.state c.end_with-in-Error.new.sink) c.loop.invariant c.in-Error.ensures.made c.end_with-in-Error.ensures.last c.end_with-in-Error.ensures.says

pub returns-in-Done : goal.returns-in-Done
returns-in-Done g c =
    said_last c.args.pool.now.cell c.loop.wrote c.end_with-in-Done.result last.Done c.args.pass.now c.loop.pass c.collect.new.pass (g.O.Sink.state c.args.sink.now) (g.O.Sink.state c.loop.sink)
    (g.O.Sink.state c.end_with-in-Done.new.sink) c.loop.invariant c.in-Done.ensures.made c.end_with-in-Done.ensures.last c.end_with-in-Done.ensures.says
