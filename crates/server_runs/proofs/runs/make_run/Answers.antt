use Rattle.server_runs.proofs.Following.{as_many}
use Rattle.server_runs.proofs.runs.make_run.Goals as goal

pub returns-clause-many : goal.returns-clause-many
returns-clause-many g c =
    as_many g.A.Acceptor.state g.A.In.Source.state g.A.Out.Sink.state c.args.setup.now (g.S.Serving.outcome c.args.servants.now) c.serve_run.result c.args.acceptors.now.items c.serve_run.new.slots.items c.serve_run.ensures.slots
