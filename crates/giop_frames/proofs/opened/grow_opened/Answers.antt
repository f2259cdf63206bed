use Rattle.std.proofs.lemmas.Result.{err_from_is_err_and}
use Rattle.giop_frames.proofs.Opening.{goes_more, more_opened, more_full, more_filled, more_fails, more_taken}
use Rattle.giop_frames.proofs.opened.grow_opened.Goals as goal

pub returns-then-came-len : goal.returns-then-came-len
returns-then-came-len c =
    goes_more c.args.here c.args.opened c.in-Ok.filling c.args.tail.now.items c.args.bytes.now c.args.partials.now.items c.args.whole.now.items c.args.came c.piece_len-len.result
    c.requires.opened c.in-Ok.ensures c.requires.came c.piece_len-len.ensures c.if-came-len.true

pub close-requires-clause-opened : goal.close-requires-clause-opened
close-requires-clause-opened c =
    more_opened c.args.here c.args.opened c.in-Ok.filling c.args.tail.now.items c.args.bytes.now c.and.result.items c.args.partials.now.items c.requires.opened c.in-Ok.ensures c.and.ensures

pub close-requires-clause-full : goal.close-requires-clause-full
close-requires-clause-full c =
    more_full c.args.here c.args.opened c.in-Ok.filling c.args.tail.now.items c.args.bytes.now c.and.result.items c.args.partials.now.items c.args.came c.piece_len-len.result
    c.requires.opened c.in-Ok.ensures c.and.ensures c.requires.came c.piece_len-len.ensures c.if-came-len.false c.requires.filled

pub close-requires-clause-filled : goal.close-requires-clause-filled
close-requires-clause-filled c =
    more_filled c.args.here c.args.opened c.in-Ok.filling c.args.tail.now.items c.args.bytes.now c.and.result.items c.args.partials.now.items c.requires.opened c.in-Ok.ensures c.and.ensures c.requires.filled

pub returns-in_err-close : goal.returns-in_err-close
returns-in_err-close c =
    let p = err_from_is_err_and c.from_residual.result c.from_residual.ensures.1 in
    rw (p.1, p.2)
    (more_fails c.in_err-close.field-0.0 c.args.here c.args.opened c.in-Ok.filling c.args.tail.now.items c.args.bytes.now c.and.result.items c.args.partials.now.items c.close.new.partials.items
    c.args.whole.now.items c.close.new.whole.items c.requires.opened c.in-Ok.ensures c.and.ensures c.in_err-close.ensures)

pub returns : goal.returns
returns c =
    more_taken c.args.here c.args.opened c.in-Ok.filling c.args.tail.now.items c.args.bytes.now c.and.result.items c.args.partials.now.items c.close.new.partials.items
    c.args.whole.now.items c.close.new.whole.items c.requires.opened c.in-Ok.ensures c.and.ensures c.in_ok-close.ensures
