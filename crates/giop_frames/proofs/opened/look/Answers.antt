use Rattle.std.proofs.Common.{arith}
use Rattle.giop_frames.proofs.Ahead.{part_short}
use Rattle.giop_frames.proofs.Joins.{tail_short}
use Rattle.giop_frames.proofs.Opening.{goes_head}
use Rattle.giop_frames.proofs.opened.look.Goals as goal

pub returns-then-len-lt-HEADER : goal.returns-then-len-lt-HEADER
returns-then-len-lt-HEADER c =
    goes_head c.args.here c.args.bytes c.args.partials.now.items c.args.whole.now.items (part_short c.args.bytes.items (omega (arith, c.len.ensures, c.if-len-lt-HEADER.true)))
    (tail_short c.args.here.limit c.args.bytes.items (omega (arith, c.len.ensures, c.if-len-lt-HEADER.true)))
