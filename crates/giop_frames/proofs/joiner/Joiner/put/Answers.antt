use Rattle.std.proofs.Common.{Option, Ok, ap, ◌∙◌, subst}
use Rattle.std.proofs.lemmas.Result.{err_from_is_err_and}
use Rattle.giop_frames.specs.declared.opened.Coming.{Coming}
use Rattle.giop_frames.specs.declared.opened.Here.{Here}
use Rattle.giop_frames.specs.Opening.{Advances, at_coming}
use Rattle.giop_frames.proofs.Opening.{put_fails, put_goes, put_takes}
use Rattle.giop_frames.proofs.joiner.Joiner.put.Goals as goal

pub returns-in_err-coming : goal.returns-in_err-coming
returns-in_err-coming c =
    let here : Here = record { alloc = c.self.inside.alloc; limit = c.self.inside.limit; at = c.self.inside.at } in
    let p = err_from_is_err_and c.from_residual.result c.from_residual.ensures.1 in
    rw (p.1, p.2)
    (put_fails c.in_err-coming.field-0.0 here c.self.inside.coming c.replace-coming.result c.replace-coming.new.dest c.new-2.result c.self.inside.tail.items c.replace-before.result.items
    c.replace-before.new.dest.items c.args.bytes.now c.self.inside.partials.items c.advance.new.partials.items c.args.whole.now.items c.advance.new.whole.items c.args.self.now c.self.view_is
    c.replace-coming.ensures.value (ap (λ t. t.items) c.replace-before.ensures.value) c.replace-coming.ensures.after c.requires.filled c.in_err-coming.ensures)

pub returns-in-Some : goal.returns-in-Some
returns-in-Some c =
    let here : Here = record { alloc = c.self.inside.alloc; limit = c.self.inside.limit; at = c.self.inside.at } in
    let A : Option Coming → Type 0 = λ o. Advances (Ok o) (at_coming here c.replace-coming.result c.replace-before.result.items c.args.bytes.now c.self.inside.partials.items) c.advance.new.partials.items
    c.args.whole.now.items c.advance.new.whole.items in
    put_goes here c.self.inside.coming c.replace-coming.result c.in-Some.coming c.self.inside.tail.items c.replace-before.result.items c.and-self-inside.result.items c.args.bytes.now
    c.self.inside.partials.items c.advance.new.partials.items c.args.whole.now.items c.advance.new.whole.items c.args.self.now c.self.view_is c.replace-coming.ensures.value
    (ap (λ t. t.items) c.replace-before.ensures.value) c.and-self-inside.ensures c.requires.filled (subst A c.in-Some.is c.in_ok-coming.ensures)

pub returns-in-None : goal.returns-in-None
returns-in-None c =
    let here : Here = record { alloc = c.self.inside.alloc; limit = c.self.inside.limit; at = c.self.inside.at } in
    let A : Option Coming → Type 0 = λ o. Advances (Ok o) (at_coming here c.replace-coming.result c.replace-before.result.items c.args.bytes.now c.self.inside.partials.items) c.advance.new.partials.items
    c.args.whole.now.items c.advance.new.whole.items in
    put_takes here c.self.inside.coming c.replace-coming.result c.replace-coming.new.dest c.new-2.result c.self.inside.tail.items c.replace-before.result.items c.replace-before.new.dest.items c.args.bytes.now
    c.self.inside.came c.self.inside.partials.items c.advance.new.partials.items c.args.whole.now.items c.advance.new.whole.items c.args.self.now c.self.view_is c.replace-coming.ensures.value
    (ap (λ t. t.items) c.replace-before.ensures.value) c.replace-coming.ensures.after c.new-2.ensures (ap (λ t. t.items) c.replace-before.ensures.after ∙ c.new.ensures) c.self.invariant.1 c.requires.filled
    (subst A c.in-None.is c.in_ok-coming.ensures)
