use Rattle.std.proofs.Common.{refl}
use Rattle.giop_frames.proofs.Deeds.{begins}
use Rattle.giop_frames.proofs.partials.begin.Goals as goal

pub returns : goal.returns
returns c =
    begins c.args.partials.now.items c.push.new.self.items c.args.at c.id_of-id.result c.args.header.order c.args.bytes.items _ c.args.bytes.items
    c.requires.sound c.requires.first c.id_of-id.ensures c.as_slice.ensures c.requires.header.order refl c.in_ok-push.ensures.items
