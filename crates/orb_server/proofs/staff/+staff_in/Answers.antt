use Rattle.std.proofs.Common.{rules, ◌+◌}
use Rattle.orb_server.specs.Threads.{HasWorked}
use Rattle.orb_server.proofs.Staffing.{idle_front, idle_own, worked_more}
use Rattle.orb_server.proofs.staff.+staff_in.Goals as goal

pub spawn_with-started-requires-clause-runs : goal.spawn_with-started-requires-clause-runs
spawn_with-started-requires-clause-runs g t c κs within = (
  search rules,
  search rules,
  search rules,
  idle_own c.args.pool.now.cell (c.args.setup.now.slots + 1) c.args.crew.workers.items c.pop.new.self.items c.in-Some.pass c.requires.workers c.in-Some.ensures.items,
)

pub staff_in-requires-after_bounds : goal.staff_in-requires-after_bounds
staff_in-requires-after_bounds g t c κs within = record {
  workers = idle_front c.args.pool.now.cell (c.args.setup.now.slots + 1) c.args.crew.workers.items c.pop.new.self.items c.in-Some.pass c.requires.workers c.in-Some.ensures.items;
  jobs = c.requires.jobs;
  opened = c.requires.opened;
  worked = (c.requires.worked.0, search rules);
  done = c.requires.done;
  unserved = c.requires.unserved;
}

pub returns-in_ok-staff-in-Ok-clause-workers : goal.returns-in_ok-staff-in-Ok-clause-workers
returns-in_ok-staff-in-Ok-clause-workers g t c =
    let last : HasWorked c.args.setup.now (g.S.Serving.outcome c.args.servants.now) c.args.pool.now.cell c.in-Some.pass.seat.number c.in-Some.pass.who c.join.result = search rules in
    worked_more c.args.setup.now (g.S.Serving.outcome c.args.servants.now) c.args.pool.now.cell (c.args.setup.now.slots + 1) c.args.crew.workers.items c.pop.new.self.items c.in-Some.pass
    c.in_ok-staff-in-Ok.staff.workers.items c.push_reserved.new.self.items c.join.result c.requires.workers c.in-Some.ensures.items
    c.in_ok-staff-in-Ok.ensures.workers c.in_ok-staff-in-Ok.ensures.all last c.push_reserved.ensures.items
