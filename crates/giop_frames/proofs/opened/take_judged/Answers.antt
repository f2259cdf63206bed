use Rattle.giop_frames.proofs.Opening.{cause_as, refused_whole, taken_by}
use Rattle.giop_frames.proofs.Soundness.{sound}
use Rattle.std.proofs.Common.{arith, subst, sym}
use Rattle.giop_frames.specs.declared.fault.FeedFault.{FeedFault}
use Rattle.giop_frames.specs.Opening.{FailsOn, at_head}
use Rattle.giop_frames.proofs.opened.take_judged.Goals as goal

pub take_piece-requires-clause-sound : goal.take_piece-requires-clause-sound
take_piece-requires-clause-sound c =
    sound c.args.here.limit c.args.partials.now.items c.args.bytes.now (cause_as c.args.here.limit c.args.partials.now.items _ c.args.bytes.now c.args.header _ c.as_slice.ensures.value c.requires.value c.in-None.ensures)
    c.requires.begins.long c.requires.filled.small c.requires.filled.distinct

pub returns-in-Some : goal.returns-in-Some
returns-in-Some c =
    let P : FeedFault → Type 0 = λ x. FailsOn x (at_head c.args.here c.args.bytes.now c.args.partials.now.items) c.args.partials.now.items c.args.whole.now.items c.args.whole.now.items in
    subst P (sym c.fault_at.ensures)
    (refused_whole (at_head c.args.here c.args.bytes.now c.args.partials.now.items) c.args.whole.now.items c.in-Some.cause c.requires.begins.long c.requires.full c.requires.sound
    (cause_as c.args.here.limit c.args.partials.now.items _ c.args.bytes.now c.args.header _ c.as_slice.ensures.value c.requires.value c.in-Some.ensures))

pub returns-in-None : goal.returns-in-None
returns-in-None c =
    rw c.lift.ensures
    (taken_by c.take_piece.result (at_head c.args.here c.args.bytes.now c.args.partials.now.items) c.take_piece.new.partials.items c.args.whole.now.items c.take_piece.new.whole.items
    c.requires.begins.long c.requires.full c.requires.sound
    (cause_as c.args.here.limit c.args.partials.now.items _ c.args.bytes.now c.args.header _ c.as_slice.ensures.value c.requires.value c.in-None.ensures) (omega arith)
    c.take_piece.ensures.ok c.take_piece.ensures.err)
