-- One more queue has a better one, or not.
use Rattle.request_buffer.proofs.Spots.{spot_more}
use Rattle.request_buffer.proofs.queues.Queues.best.Goals as goal

pub loop-number-preserved : goal.loop-number-preserved
loop-number-preserved c =
    spot_more c.args.sought c.args.self.now c.loop-number.number c.loop-number.best c.better_spot-best.result c.best_in.result c.best_in.ensures c.better_spot-best.ensures c.loop-number.invariant
