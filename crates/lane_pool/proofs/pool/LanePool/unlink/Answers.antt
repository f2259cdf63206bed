use Rattle.lane_pool.proofs.Turns.{rests_again}
use Rattle.lane_pool.proofs.pool.LanePool.unlink.Goals as goal

pub returns-clause-rests : goal.returns-clause-rests
returns-clause-rests c = rests_again c.args.self.now.cell c.args.reader c.args.writer c.join_sides.result c.requires.reader c.join_sides.ensures
