use Rattle.std.proofs.Common.{sym}
use Rattle.names_server.proofs.Listening.{served_over}
use Rattle.names_server.proofs.run_at.names_at.Goals as goal

pub returns-in-Ok-listen-clause-served : goal.returns-in-Ok-listen-clause-served
returns-in-Ok-listen-clause-served g c =
    rw (sym c.at.view_is)
    (served_over g.N.Acc.Acceptor.state g.N.In.Source.state g.N.Out.Sink.state (record { host = c.at.inside.host; port = c.at.inside.port }) c.serve_over.result c.listen.result c.in-Ok-listen.acceptors c.from.result
    (g.N.Net.state c.args.net.now) (g.N.Net.state c.listen.new.self) (g.O.Sink.state c.args.out.now) (g.O.Sink.state c.serve_over.new.out)
    c.in-Ok-listen.is c.from.ensures c.listen.ensures.asked c.listen.ensures.acceptors c.listen.ensures.fault c.serve_over.ensures)
