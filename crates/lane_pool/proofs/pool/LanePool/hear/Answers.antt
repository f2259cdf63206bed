use Rattle.lane_pool.proofs.Turns.{goes_on}
use Rattle.lane_pool.proofs.pool.LanePool.hear.Goals as goal

pub returns-clause-next : goal.returns-clause-next
returns-clause-next g c = goes_on c.args.self.now.cell c.args.call c.make_heard.result c.args.pass.now c.make_heard.new.pass c.requires.listens c.requires.heard c.make_heard.ensures.made
