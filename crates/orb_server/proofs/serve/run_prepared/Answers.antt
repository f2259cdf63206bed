use Rattle.std.proofs.Common.{◌≡◌, ◌*◌, ◌≤◌, length, subst, ◌∙◌, arith}
use Rattle.orb_server.specs.Threads.{acceptors_of, AreDone}
use Rattle.orb_server.specs.Giving.{conns_of}
use Rattle.orb_server.proofs.Closing.{all_home, few_conns}
use Rattle.orb_server.proofs.serve.run_prepared.Goals as goal

pub close_run-requires-clause-home : goal.close_run-requires-clause-home
close_run-requires-clause-home g c κs within = (
  all_home g.A.Acceptor.state g.A.In.Source.state g.A.Out.Sink.state c.args.setup.now c.args.prepared.pool.cell (acceptors_of c.give_acceptors-jobs.result.items) c.in_ok-staff.staff.slots.items
      c.in_ok-staff.ensures.slots,
  c.in_ok-staff.ensures.every ∙ c.give_acceptors-jobs.ensures.all ∙ c.requires.starts.1,
)

pub close_run-requires-clause-room : goal.close_run-requires-clause-room
close_run-requires-clause-room g c κs within =
    let count : length c.in_ok-staff.staff.slots.items ≡ c.args.setup.now.slots = c.in_ok-staff.ensures.every ∙ c.give_acceptors-jobs.ensures.all ∙ c.requires.starts.1 in
    let few : length (conns_of c.in_ok-staff.staff.slots.items) ≤ c.args.setup.now.slots * c.args.setup.now.per_slot
    = few_conns g.A.Acceptor.state g.A.In.Source.state g.A.Out.Sink.state c.args.setup.now c.args.prepared.pool.cell (acceptors_of c.give_acceptors-jobs.result.items) c.in_ok-staff.staff.slots.items
    c.args.setup.now.slots c.in_ok-staff.ensures.slots count in
    (c.requires.room.0, c.requires.room.1, omega (arith, few, c.requires.room.2), c.requires.room.3)

pub returns-clause-slots : goal.returns-clause-slots
returns-clause-slots g c = c.close_run.ensures.slots c.args.acceptors.items
    (subst (λ b. AreDone g.A.Acceptor.state g.A.In.Source.state g.A.Out.Sink.state c.args.setup.now c.args.prepared.pool.cell 0 b c.in_ok-staff.staff.slots.items)
    c.give_acceptors-jobs.ensures.acceptors c.in_ok-staff.ensures.slots)
