use Rattle.orb_server.proofs.Serving.{one_served}
use Rattle.orb_server.proofs.link.serve_link.Goals as goal

pub returns-clause-one : goal.returns-clause-one
returns-clause-one g c = let b = c.both_sides-written in
    one_served g.I.Source.state g.O.Sink.state c.args.setup.now c.args.pool.now.cell c.args.pass c.in-Ok.reader c.in-Ok.writer b.result.1.pass b.result.0.pass c.unlink-pass.result
    c.args.source b.result.1.source c.args.sink b.result.0.sink c.conn-id.result b.result.1.end b.result.0.end
    c.requires.home c.in-Ok.ensures.ok c.in-Ok.ensures.writer c.conn-id.ensures c.requires.source c.requires.sink b.ensures.reads b.ensures.writes c.unlink-pass.ensures.made
