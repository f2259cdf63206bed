use Rattle.lane_pool.proofs.Giving.{given_more}
use Rattle.lane_pool.proofs.returning.+take_workers.Goals as goal

pub returns-in-Some : goal.returns-in-Some
returns-in-Some t c = given_more c.args.cell.now c.args.workers.items c.pop.new.self.items c.in-Some.pass c.args.main.now c.take_workers.new.main c.join_worker.new.main c.in-Some.ensures.items c.take_workers.ensures c.take_workers.ensures.in_cell c.join_worker.ensures
