use Rattle.std.proofs.Common.{◌==◌, length, nat_le}
use Rattle.giop_frames.specs.Pieces.{kind_of}
use Rattle.giop_frames.proofs.Deeds.{found_as, none_as, cancels_it, stays, stays_open, short_no_cancel, cancel_as, no_cancel_as}
use Rattle.giop_frames.proofs.Effects.{last_opens_none}
use Rattle.giop_frames.proofs.partials.cancel.Goals as goal
use Rattle.giop_frames.proofs.partials.cancel.Goals.{else-is-via-then-is+else-bytes-ge16, else-is-via-else-is}

pub returns-in-Some : goal.returns-in-Some
returns-in-Some c =
    cancels_it c.args.partials.now.items c.remove.new.self.items c.args.bytes.now c.in-Some.i c.requires.sound c.requires.other c.requires.last
    (cancel_as c.args.bytes.now _ c.requires.header.kind c.if-is.ensures) c.if-bytes-ge16.true
    (found_as _ _ c.in-Some.i _ _ c.id_of.ensures c.as_slice.ensures.value c.in-Some.ensures) c.remove.ensures.items

pub returns-in_default : goal.returns-in_default
returns-in_default c =
    stays_open c.args.partials.now.items c.args.bytes.now (last_opens_none c.args.bytes.now c.requires.last)
    (none_as _ _ _ _ c.id_of.ensures c.as_slice.ensures.value c.in_default.ensures)

pub returns-else-is : goal.returns-else-is
returns-else-is c =
    elim c.else-is.branch [
      | else-is-via-then-is+else-bytes-ge16 w ↦ stays c.args.partials.now.items c.args.bytes.now c.requires.other c.requires.last
          (short_no_cancel (kind_of c.args.bytes.now == 2) (length c.args.bytes.now) w.if-bytes-ge16.false)
      | else-is-via-else-is w ↦ stays c.args.partials.now.items c.args.bytes.now c.requires.other c.requires.last
          (no_cancel_as c.args.bytes.now _ (nat_le 16 (length c.args.bytes.now)) c.requires.header.kind w.if-is.ensures)
    ]
