use Rattle.std.proofs.Common.{rules}
use Rattle.orb_server.specs.Threads.{IsJob}
use Rattle.orb_server.proofs.Forking.{jobs_own, done_own}
use Rattle.orb_server.proofs.Kept.{kept_quiet}
use Rattle.orb_server.proofs.slots.run_slots.Goals as goal

pub run_all-requires-clause-jobs : goal.run_all-requires-clause-jobs
run_all-requires-clause-jobs g c κs within = λ k d l. (let b = c.type_bounds in (
  (
    jobs_own c.args.setup.now c.args.pool.now.cell (λ x. IsJob c.args.setup.now c.args.pool.now.cell x.place.who x) (λ x j. j) 0 c.args.jobs.items c.requires.jobs k d l,
    c.requires.opened,
  ),
  (
    record { owned = b.send-A.owned; leaving = kept_quiet 0 },
    record { owned = b.send-A-In.owned; leaving = kept_quiet 2 },
    record { owned = b.send-A-Out.owned; leaving = kept_quiet 3 },
    search rules,
  ),
))

pub returns-clause-done : goal.returns-clause-done
returns-clause-done g c = done_own g.A.Acceptor.state g.A.In.Source.state g.A.Out.Sink.state c.args.setup.now c.args.pool.now.cell _ (λ x d q. q) 0 c.args.jobs.items c.run_all.result.items c.requires.jobs c.run_all.ensures.did
