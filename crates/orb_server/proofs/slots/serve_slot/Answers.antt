use Rattle.orb_server.proofs.Serving.{rests_after, comes_out, has_left}
use Rattle.orb_server.proofs.slots.serve_slot.Goals as goal

pub leave-requires : goal.leave-requires
leave-requires g c = record {
  rests = rests_after g.A.In.Source.state g.A.Out.Sink.state c.args.setup.now c.args.pool.now.cell _ (λ link done s. s.1) g.A.Acceptor.state
      c.args.job.place.who _ c.args.job c.run_slot-done.result c.requires.job c.run_slot-done.ensures.ran;
}

pub returns : goal.returns
returns g c = has_left g.A.In.Source.state g.A.Out.Sink.state c.args.setup.now c.args.pool.now.cell c.args.job.place.who
    (g.A.Acceptor.state c.args.job.acceptor) (g.A.Acceptor.state c.run_slot-done.result.acceptor) c.run_slot-done.result.place c.leave.new.pass
    c.run_slot-done.result.logs.items c.run_slot-done.result.end
    (comes_out g.A.In.Source.state g.A.Out.Sink.state c.args.setup.now c.args.pool.now.cell _ (λ link done s. s.1) g.A.Acceptor.state
    c.args.job.place.who _ c.args.job c.run_slot-done.result c.requires.job c.per_slot.ensures.value c.run_slot-done.ensures.ran)
    (rests_after g.A.In.Source.state g.A.Out.Sink.state c.args.setup.now c.args.pool.now.cell _ (λ link done s. s.1) g.A.Acceptor.state
    c.args.job.place.who _ c.args.job c.run_slot-done.result c.requires.job c.run_slot-done.ensures.ran)
    c.leave.ensures.made
