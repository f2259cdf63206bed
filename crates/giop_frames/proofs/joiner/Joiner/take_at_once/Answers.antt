use Rattle.std.proofs.lemmas.Result.{err_from_is_err_and}
use Rattle.giop_frames.specs.declared.opened.Here.{Here}
use Rattle.giop_frames.proofs.Opening.{once_filled, once_fails, once_takes}
use Rattle.giop_frames.proofs.joiner.Joiner.take_at_once.Goals as goal

pub returns-in_err-take_whole : goal.returns-in_err-take_whole
returns-in_err-take_whole c =
    let here : Here = record { alloc = c.self.inside.alloc; limit = c.self.inside.limit; at = c.self.inside.at } in
    let p = err_from_is_err_and c.from_residual.result c.from_residual.ensures.1 in
    rw (p.1, p.2)
    (once_fails c.in_err-take_whole.field-0.0 here c.self.inside.coming c.self.inside.tail.items c.args.bytes.now c.self.inside.partials.items c.take_whole.new.partials.items c.args.whole.now.items
    c.take_whole.new.whole.items c.args.self.now c.self.view_is c.requires.none c.self.invariant.0
    (once_filled here c.self.inside.coming c.self.inside.tail.items c.args.bytes.now c.self.inside.partials.items c.args.self.now c.self.view_is c.requires.none c.self.invariant.0 c.requires.resting c.requires.full)
    c.in_err-take_whole.ensures)

pub returns : goal.returns
returns c =
    let here : Here = record { alloc = c.self.inside.alloc; limit = c.self.inside.limit; at = c.self.inside.at } in
    once_takes here c.self.inside.coming c.self.inside.tail.items c.args.bytes.now c.self.inside.partials.items c.take_whole.new.partials.items c.args.whole.now.items c.take_whole.new.whole.items c.args.self.now
    c.self.view_is c.requires.none c.self.invariant.0
    (once_filled here c.self.inside.coming c.self.inside.tail.items c.args.bytes.now c.self.inside.partials.items c.args.self.now c.self.view_is c.requires.none c.self.invariant.0 c.requires.resting c.requires.full)
    c.in_ok-take_whole.ensures
