use Rattle.std.proofs.Common.{◌≡◌, true, ◌+◌, ◌∷◌, drop, sym, ap, ◌∙◌, arith}
use Rattle.std.proofs.lemmas.List.{drop_more, drop_all}
use Rattle.cdr_values.proofs.Endings.{front_of}
use Rattle.value_json.specs.Operations.{goes_in}
use Rattle.value_json.proofs.Answering.{none_below}
use Rattle.client_stub.proofs.Sendings.{puts_all, puts_by, puts_on, puts_few, puts_done, arg_fits}
use Rattle.client_stub.proofs.requests.put_arguments.Goals as goal

pub loop-param-init : goal.loop-param-init
loop-param-init c = puts_all c.args.params.now c.args.arguments.now c.args.into.now c.requires.fits

pub returns-in_default : goal.returns-in_default
returns-in_default c =
    let l = c.loop-param in
    let ps = c.args.params.now in
    let p = c.param-item.result in
    let here : drop l.param-index ps ≡ p ∷ drop (l.param-index + 1) ps = drop_more ps l.param-index p (omega arith) ∙ ap (λ y. y ∷ drop (l.param-index + 1) ps) (sym c.param-item.is) in
    let goes : goes_in p.way ≡ true = sym c.goes_in.ensures ∙ c.if-not-goes_in.false in
    absurd (puts_few (drop l.param-index ps) (drop (l.param-index + 1) ps) p l.rest.now _ l.into _ here goes (none_below l.rest.now c.in_default.len_below) l.invariant)

pub encode-requires : goal.encode-requires
encode-requires c =
    let l = c.loop-param in
    let ps = c.args.params.now in
    let p = c.param-item.result in
    let here : drop l.param-index ps ≡ p ∷ drop (l.param-index + 1) ps = drop_more ps l.param-index p (omega arith) ∙ ap (λ y. y ∷ drop (l.param-index + 1) ps) (sym c.param-item.is) in
    let goes : goes_in p.way ≡ true = sym c.goes_in.ensures ∙ c.if-not-goes_in.false in
    let v = c.value-item.result in
    record {
      fits = arg_fits (drop l.param-index ps) (drop (l.param-index + 1) ps) p l.rest.now _ v _ l.into _ here goes
          (front_of l.rest.now v _ c.in-len1-up.len_at_least c.value-item.is) l.invariant;
    }

pub loop-param-preserved : goal.loop-param-preserved
loop-param-preserved c =
    let l = c.loop-param in
    let ps = c.args.params.now in
    let p = c.param-item.result in
    let here : drop l.param-index ps ≡ p ∷ drop (l.param-index + 1) ps = drop_more ps l.param-index p (omega arith) ∙ ap (λ y. y ∷ drop (l.param-index + 1) ps) (sym c.param-item.is) in
    let goes : goes_in p.way ≡ true = sym c.goes_in.ensures ∙ c.if-not-goes_in.false in
    let v = c.value-item.result in
    puts_on (drop l.param-index ps) (drop (l.param-index + 1) ps) p l.rest.now _ v _ l.into _ _ here goes
    (front_of l.rest.now v _ c.in-len1-up.len_at_least c.value-item.is) c.in_ok-encode.ensures l.invariant

pub returns : goal.returns
returns c =
    let l = c.loop-param in
    puts_done (drop l.param-index c.args.params.now) l.rest.now _ l.into _ (drop_all l.param-index _ (omega arith)) l.invariant
