use Rattle.std.proofs.Common.{refl}
use Rattle.giop_frames.proofs.Uncut.{uncut_by}
use Rattle.giop_frames.proofs.cutting.can_split.Goals as goal

pub returns-in-Ok : goal.returns-in-Ok
returns-in-Ok c = uncut_by c.args.message.now c.in-Ok.header _ c.is_uncut.result c.in-Ok.ensures refl c.is_uncut.ensures
