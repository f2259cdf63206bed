use Rattle.std.proofs.Common.{◌≡◌, true, ◌+◌, ◌∷◌, drop, sym, ap, ◌∙◌, arith}
use Rattle.std.proofs.lemmas.List.{drop_more, drop_all}
use Rattle.cdr_values.proofs.Endings.{front_of}
use Rattle.value_json.specs.Operations.{goes_in}
use Rattle.value_json.proofs.Answering.{none_below}
use Rattle.client_stub.proofs.Lengths.{nothing_passed, passed_on, passed_few, passed_all, value_fits}
use Rattle.client_stub.proofs.length.body_len.Goals as goal

pub loop-param-init : goal.loop-param-init
loop-param-init c = nothing_passed c.args.params.now c.args.arguments.now c.requires.fits

pub returns-in_default : goal.returns-in_default
returns-in_default c =
    let l = c.loop-param in
    let ps = c.args.params.now in
    let p = c.param-item.result in
    let here : drop l.param-index ps ≡ p ∷ drop (l.param-index + 1) ps = drop_more ps l.param-index p (omega arith) ∙ ap (λ y. y ∷ drop (l.param-index + 1) ps) (sym c.param-item.is) in
    let goes : goes_in p.way ≡ true = sym c.goes_in.ensures ∙ c.if-not-goes_in.false in
    passed_few (drop l.param-index ps) (drop (l.param-index + 1) ps) p l.rest.now l.place _ here goes (none_below l.rest.now c.in_default.len_below) l.invariant

pub spelled_end-place-requires : goal.spelled_end-place-requires
spelled_end-place-requires c =
    let l = c.loop-param in
    let ps = c.args.params.now in
    let p = c.param-item.result in
    let here : drop l.param-index ps ≡ p ∷ drop (l.param-index + 1) ps = drop_more ps l.param-index p (omega arith) ∙ ap (λ y. y ∷ drop (l.param-index + 1) ps) (sym c.param-item.is) in
    let goes : goes_in p.way ≡ true = sym c.goes_in.ensures ∙ c.if-not-goes_in.false in
    let v = c.value-item.result in
    record {
      fits = value_fits (drop l.param-index ps) (drop (l.param-index + 1) ps) p l.rest.now _ v l.place _ here goes
          (front_of l.rest.now v _ c.in-len1-up.len_at_least c.value-item.is) l.invariant;
    }

pub loop-param-preserved : goal.loop-param-preserved
loop-param-preserved c =
    let l = c.loop-param in
    let ps = c.args.params.now in
    let p = c.param-item.result in
    let here : drop l.param-index ps ≡ p ∷ drop (l.param-index + 1) ps = drop_more ps l.param-index p (omega arith) ∙ ap (λ y. y ∷ drop (l.param-index + 1) ps) (sym c.param-item.is) in
    let goes : goes_in p.way ≡ true = sym c.goes_in.ensures ∙ c.if-not-goes_in.false in
    let v = c.value-item.result in
    passed_on (drop l.param-index ps) (drop (l.param-index + 1) ps) p l.rest.now _ v l.place c.spelled_end-place.result _ here goes
    (front_of l.rest.now v _ c.in-len1-up.len_at_least c.value-item.is) c.spelled_end-place.ensures.end l.invariant

pub returns : goal.returns
returns c =
    let l = c.loop-param in
    passed_all (drop l.param-index c.args.params.now) l.rest.now l.place _ (drop_all l.param-index _ (omega arith)) l.invariant
