use Rattle.std.proofs.Common.{sym}
use Rattle.giop_frames.proofs.Heads.{begins}
use Rattle.giop_frames.proofs.header.judged.Goals as goal

pub returns-else-piece_len-limit-clause-begins : goal.returns-else-piece_len-limit-clause-begins
returns-else-piece_len-limit-clause-begins c = begins c.args.bytes.now c.in-Ok.header c.requires (sym c.in-Ok.ensures)
