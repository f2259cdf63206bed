use Rattle.std.proofs.Common.{◌≡◌, ◌+◌, ◌∷◌, drop, get_or, arith, string_bytes}
use Rattle.std.proofs.lemmas.List.{drop_more, drop_all}
use Rattle.value_json.proofs.Characters.{text_more, text_done}
use Rattle.value_json.proofs.texts.encoded.Goals as goal

pub loop-byte-preserved : goal.loop-byte-preserved
loop-byte-preserved c =
    let l = c.loop-byte in
    let bs = c.args.bytes.now in
    let b = get_or bs l.byte-index 0 in
    let here : drop l.byte-index bs ≡ b ∷ drop (l.byte-index + 1) bs = drop_more bs l.byte-index 0 (omega arith) in
    rw (c.in_ok-push.ensures.bytes, c.from.ensures) (text_more (string_bytes l.text) (drop l.byte-index bs) (drop (l.byte-index + 1) bs) b _ here l.invariant)

pub returns : goal.returns
returns c =
    let l = c.loop-byte in
    text_done (string_bytes l.text) (drop l.byte-index c.args.bytes.now) _ (drop_all l.byte-index _ (omega arith)) l.invariant
