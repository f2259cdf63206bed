use Rattle.lane_pool.proofs.Sending.{workers_last, workers_front}
use Rattle.machine_tests.proofs.lane_pool_tests.storm.+workers.Goals as goal

pub run_workers-with_workers-requires-clause-worker : goal.run_workers-with_workers-requires-clause-worker
run_workers-with_workers-requires-clause-worker g t c κs within = workers_last c.args.pool.now.cell c.args.first c.args.workers.items c.pop.new.self.items c.in-Some.worker c.requires.workers c.in-Some.ensures.items

pub run_workers-with_workers-requires-clause-workers : goal.run_workers-with_workers-requires-clause-workers
run_workers-with_workers-requires-clause-workers g t c κs within = workers_front c.args.pool.now.cell c.args.first c.args.workers.items c.pop.new.self.items c.in-Some.worker c.requires.workers c.in-Some.ensures.items
