use Rattle.std.proofs.Common.{◌≡◌, true, false, ◌∙◌, sym, ap, refl}
use Rattle.giop_frames.specs.Pieces.{Piece, has_more}
use Rattle.giop_frames.specs.Messages.{is_fragment}
use Rattle.giop_frames.proofs.Deeds.{ok_then, does_more, fragment_as}
use Rattle.giop_frames.proofs.partials.take_piece.Goals as goal

pub go_on-requires-clause-fragment : goal.go_on-requires-clause-fragment
go_on-requires-clause-fragment c = fragment_as c.args.bytes.now _ true c.requires.header.kind c.if-is.ensures

pub end-requires-clause-fragment : goal.end-requires-clause-fragment
end-requires-clause-fragment c = fragment_as c.args.bytes.now _ true c.requires.header.kind c.if-is.ensures

pub take_own-requires-clause-other : goal.take_own-requires-clause-other
take_own-requires-clause-other c = ap is_fragment c.in_ok-copied.ensures ∙ fragment_as c.args.bytes.now _ false c.requires.header.kind c.if-is.ensures

pub returns-then-header-clause-ok : goal.returns-then-header-clause-ok
returns-then-header-clause-ok c =
    let p : Piece = record { at = c.args.here.at; bytes = c.args.bytes.now } in
    let more : has_more c.args.bytes.now ≡ true = sym c.requires.header.more ∙ c.if-header.true in
    ok_then c.go_on.result c.go_on.ensures (λ s. does_more p c.args.partials.now.items c.go_on.new.partials.items c.args.whole.now.items c.args.whole.now.items more s refl)
