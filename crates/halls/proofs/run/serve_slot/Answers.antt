use Rattle.halls.proofs.Serving.{left_so}
use Rattle.halls.proofs.run.serve_slot.Goals as goal

pub returns : goal.returns
returns g c =
    left_so g.A.In.Source.state g.A.Out.Sink.state (g.H.Hall.judged_by c.args.hall.now) g.H.Hall.held (g.H.Hall.is_of c.args.hall.now) _ (λ link done s. s.1)
    g.A.Acceptor.state c.args.most c.args.job c.run_slot.result c.requires.job.of c.run_slot.ensures.ran
