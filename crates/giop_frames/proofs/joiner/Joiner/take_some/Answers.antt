use Rattle.std.proofs.Common.{arith, take}
use Rattle.std.proofs.lemmas.List.{length-take}
use Rattle.giop_frames.proofs.Ahead.{long_piece}
use Rattle.giop_frames.proofs.Joins.{took_fails}
use Rattle.giop_frames.proofs.JoinParts.{fills, stands_full, stands_long}
use Rattle.giop_frames.proofs.joiner.Joiner.take_some.Goals as goal

pub take_at_once-requires-clause-long : goal.take_at_once-requires-clause-long
take_at_once-requires-clause-long c = stands_long c.args.input.now c.self.inside.came c.in-Some.n c.in-Some.ensures

pub take_at_once-requires-clause-full : goal.take_at_once-requires-clause-full
take_at_once-requires-clause-full c = stands_full c.args.input.now c.self.inside.came c.in-Some.n c.in-Some.ensures

pub put-requires-clause-filled : goal.put-requires-clause-filled
put-requires-clause-filled c =
    fills c.args.self.now (take c.min-n.result c.args.input.now) c.need.result c.requires.resting c.need.ensures (omega (arith, c.min-n.ensures, length-take c.min-n.result c.args.input.now))

pub returns-in-Ok : goal.returns-in-Ok
returns-in-Ok c =
    record {
      some = omega (arith, c.in-Some.ensures.len, long_piece c.args.input.now);
      within = c.in-Some.ensures.within;
      same = c.in-Ok.ensures;
    }

pub returns-in-Err : goal.returns-in-Err
returns-in-Err c = took_fails c.in-Err.fault c.in-Some.n c.args.whole.now.items c.take_at_once.new.whole.items c.args.self.now c.take_at_once.new.self c.args.input.now c.in-Err.ensures

pub returns-in-Err-put : goal.returns-in-Err-put
returns-in-Err-put c = took_fails c.in-Err-put.fault c.min-n.result c.args.whole.now.items c.put.new.whole.items c.args.self.now c.put.new.self c.args.input.now c.in-Err-put.ensures
