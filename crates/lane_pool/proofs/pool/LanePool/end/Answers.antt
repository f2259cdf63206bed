use Rattle.lane_machine.specs.declared.call.LaneReply.TheVariants as reply
use Rattle.lane_pool.proofs.Turns.{has_ended}
use Rattle.lane_pool.proofs.pool.LanePool.end.Goals as goal

pub returns-clause-ended : goal.returns-clause-ended
returns-clause-ended g c = has_ended c.args.self.now.cell c.args.how reply.Noted c.args.pass.now c.make_end.new.pass c.requires.reads c.make_end.ensures
