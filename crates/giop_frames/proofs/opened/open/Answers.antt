use Rattle.std.proofs.Common.{ap, length, arith}
use Rattle.giop_frames.specs.Pieces.{piece_len}
use Rattle.giop_frames.proofs.Ahead.{part_of}
use Rattle.giop_frames.proofs.Joins.{tail_sound}
use Rattle.giop_frames.proofs.Opening.{header_len, goes_head, goes_open}
use Rattle.giop_frames.proofs.opened.open.Goals as goal

pub take_judged-requires-clause-full : goal.take_judged-requires-clause-full
take_judged-requires-clause-full c =
    omega (
      arith,
      ap length c.as_slice.ensures,
      ap piece_len c.as_slice.ensures,
      c.len.ensures,
      header_len c.args.header c.args.bytes.items _ c.requires.begins c.piece_len.ensures,
      c.if-len-piece_len.true,
      c.requires.filled.fits c.requires.begins.long,
    )

pub returns-then-len-lt-JUDGED : goal.returns-then-len-lt-JUDGED
returns-then-len-lt-JUDGED c =
    goes_head c.args.here c.args.bytes c.args.partials.now.items c.args.whole.now.items
    (part_of c.args.bytes.items (omega (arith, c.len.ensures, header_len c.args.header c.args.bytes.items _ c.requires.begins c.piece_len.ensures, c.if-len-piece_len.false)))
    (tail_sound c.args.here.limit c.args.bytes.items c.requires.sound)

pub returns-in-Ok : goal.returns-in-Ok
returns-in-Ok c =
    goes_open c.args.here c.in-Ok.opened c.args.bytes.items c.args.partials.now.items c.open_long.new.partials.items c.args.whole.now.items c.in-Ok.ensures
    (omega (arith, c.len.ensures, header_len c.args.header c.args.bytes.items _ c.requires.begins c.piece_len.ensures, c.if-len-piece_len.false))
