use Rattle.std.proofs.Common.{◌≡◌, ◌∙◌, sym, true, refl}
use Rattle.giop_frames.specs.Pieces.{Piece, has_more}
use Rattle.giop_frames.proofs.Deeds.{ok_then, does_begun}
use Rattle.giop_frames.proofs.Effects.{opens_first}
use Rattle.giop_frames.proofs.partials.take_own.Goals as goal

pub begin-requires-clause-first : goal.begin-requires-clause-first
begin-requires-clause-first c = opens_first c.args.bytes.items (sym c.requires.header.more ∙ c.if-header.true) c.requires.other

pub returns-then-header-clause-ok : goal.returns-then-header-clause-ok
returns-then-header-clause-ok c =
    let p : Piece = record { at = c.args.at; bytes = c.args.bytes.items } in
    let more : has_more c.args.bytes.items ≡ true = sym c.requires.header.more ∙ c.if-header.true in
    ok_then c.begin.result c.begin.ensures (λ s. does_begun p c.args.partials.now.items c.begin.new.partials.items c.args.whole.now.items c.args.whole.now.items more s refl)
