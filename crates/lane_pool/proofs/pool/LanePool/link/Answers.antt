use Rattle.lane_pool.proofs.Turns.{listens_ok, unheard_ok}
use Rattle.lane_pool.proofs.pool.LanePool.link.Goals as goal

pub returns-clause-reader : goal.returns-clause-reader
returns-clause-reader c = listens_ok c.args.self.now.cell c.args.pass c.split_sides.result c.requires.rests c.requires.room c.split_sides.ensures.ok

pub returns-clause-unheard : goal.returns-clause-unheard
returns-clause-unheard c = unheard_ok c.args.self.now.cell c.args.pass c.split_sides.result c.requires.rests c.split_sides.ensures.ok
