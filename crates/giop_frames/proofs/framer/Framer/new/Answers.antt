use Rattle.std.proofs.Common.{arith}
use Rattle.giop_frames.proofs.Framed.{holds_new}
use Rattle.giop_frames.proofs.framer.Framer.new.Goals as goal

pub invariant_of-result : goal.invariant_of-result
invariant_of-result c = holds_new c.args.limit c.new-2.result.items c.in_ok-new.field-0 c.requires.least (omega (arith, c.requires.most)) c.new-2.ensures c.in_ok-new.ensures
