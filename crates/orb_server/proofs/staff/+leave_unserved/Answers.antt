use Rattle.orb_server.proofs.Starting.{last_rests}
use Rattle.orb_server.proofs.staff.+leave_unserved.Goals as goal

pub leave-requires : goal.leave-requires
leave-requires g t c = record {
  rests = last_rests c.args.setup.now c.args.pool.now.cell c.args.jobs.items c.pop.new.self.items c.in-Some.job c.requires.jobs c.in-Some.ensures.items;
}
