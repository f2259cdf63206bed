use Rattle.std.proofs.Common.{sym}
use Rattle.names_runs.proofs.Closing.{all_jobs, all_done}
use Rattle.names_runs.proofs.running.serve_slots.Goals as goal

pub run_hall-requires-clause-jobs : goal.run_hall-requires-clause-jobs
run_hall-requires-clause-jobs g c κs within = all_jobs c.args.setup.now c.args.map.now c.args.jobs.items c.per_slot.result (sym c.per_slot.ensures.value) c.requires.jobs

pub returns-clause-done : goal.returns-clause-done
returns-clause-done g c =
    all_done g.A.Acceptor.state g.A.In.Source.state g.A.Out.Sink.state c.args.setup.now c.args.map.now c.per_slot.result c.args.jobs.items c.run_hall.result.items
    c.per_slot.ensures.value c.requires.jobs c.run_hall.ensures.ran
