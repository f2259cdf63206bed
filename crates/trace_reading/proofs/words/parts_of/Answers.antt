use Rattle.std.proofs.Common.{◌≡◌, ◌+◌, ◌<◌, ◌≤◌, ◌++◌, Bor, List, Some, ℕ, ap, arith, drop, length, map, refl, sym, ◌∙◌}
use Rattle.std.specs.List.{slice_split}
use Rattle.std.proofs.lemmas.Bool.{eqb-false, eqb-true}
use Rattle.std.proofs.lemmas.List.{drop-drop}
use Rattle.trace_reading.specs.Words.{is_byte}
use Rattle.trace_reading.proofs.Parts.{parts_more, parts_many, parts_all}
use Rattle.trace_reading.proofs.words.parts_of.Goals as goal

pub returns-then-is_full : goal.returns-then-is_full
returns-then-is_full c =
    parts_many (λ (part : Bor (List ℕ)). part.now) c.args.by c.args.text.now c.loop-n.rest.now c.loop-n.parts.items c.loop-n.invariant
    (eqb-true (length c.loop-n.parts.items) 12 (sym c.if-is_full.ensures.value))

pub loop-n-preserved : goal.loop-n-preserved
loop-n-preserved c =
    let now = λ (part : Bor (List ℕ)). part.now in
    let after : c.split_at-in-Some.result.1.now ≡ drop (c.in-Some.n + 1) c.loop-n.rest.now =
    c.split_at-in-Some.ensures.back ∙ ap (drop 1) c.split_at.ensures.back ∙ drop-drop 1 c.in-Some.n c.loop-n.rest.now in
    parts_more now (is_byte c.args.by) c.args.text.now c.loop-n.rest.now c.loop-n.parts.items c.split_at.result.0 c.in-Some.n
    c.loop-n.invariant (sym c.in-Some.ensures.at) c.split_at.ensures.front
    ∙ (λ i. map now (sym c.push.ensures.items i) ++ slice_split (is_byte c.args.by) (sym after i))

pub returns-then-is_full-2 : goal.returns-then-is_full-2
returns-then-is_full-2 c =
    parts_many (λ (part : Bor (List ℕ)). part.now) c.args.by c.args.text.now c.loop-n.rest.now c.loop-n.parts.items c.loop-n.invariant
    (eqb-true (length c.loop-n.parts.items) 12 (sym c.if-is_full-2.ensures.value))

pub returns : goal.returns
returns c =
    let now = λ (part : Bor (List ℕ)). part.now in
    let fits : length c.loop-n.parts.items ≤ 12 = c.is_full-2.ensures.fits in
    let other = eqb-false (length c.loop-n.parts.items) 12 (sym c.if-is_full-2.ensures.value) in
    let few : length c.loop-n.parts.items < 12 = omega arith in
    (λ i. Some (map now (c.push-2.ensures.items i)))
    ∙ parts_all now c.args.by c.args.text.now c.loop-n.rest.now c.loop-n.parts.items c.loop-n.rest c.loop-n.invariant (sym c.in_default.ensures.at) refl few
