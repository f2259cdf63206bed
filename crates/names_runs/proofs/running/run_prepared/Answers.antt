use Rattle.std.proofs.Common.{subst}
use Rattle.names_runs.specs.Starting.{AreDone}
use Rattle.names_runs.proofs.running.run_prepared.Goals as goal

pub returns-clause-slots : goal.returns-clause-slots
returns-clause-slots g c = c.close_run.ensures.slots c.args.acceptors.items
    (subst (λ b. AreDone g.A.Acceptor.state g.A.In.Source.state g.A.Out.Sink.state c.args.setup.now c.args.prepared.map 0 b c.serve_slots-done.result.items)
    c.give_acceptors-jobs.ensures.acceptors c.serve_slots-done.ensures.done)
