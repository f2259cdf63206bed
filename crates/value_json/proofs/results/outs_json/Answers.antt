use Rattle.std.proofs.Common.{◌≡◌, true, ◌+◌, [], ◌∷◌, ◌++◌, map, drop, sym, ap, ◌∙◌, arith}
use Rattle.std.proofs.lemmas.List.{map_push, drop_more, drop_all}
use Rattle.cdr_values.proofs.Endings.{front_of}
use Rattle.serde_json.specs.View.{view}
use Rattle.value_json.specs.Operations.{goes_out}
use Rattle.value_json.proofs.Answering.{outs_on, outs_few, outs_done, none_below}
use Rattle.value_json.proofs.results.outs_json.Goals as goal

pub returns-in_default : goal.returns-in_default
returns-in_default c =
    let l = c.loop-param in
    let ps = c.args.params.now in
    let p = c.param-item.result in
    let here : drop l.param-index ps ≡ p ∷ drop (l.param-index + 1) ps = drop_more ps l.param-index p (omega arith) ∙ ap (λ y. y ∷ drop (l.param-index + 1) ps) (sym c.param-item.is) in
    let goes : goes_out p.way ≡ true = sym c.goes_out.ensures ∙ c.if-not-goes_out.false in
    outs_few (map view l.list.items) (drop l.param-index ps) (drop (l.param-index + 1) ps) p l.rest.now _ here goes (none_below l.rest.now c.in_default.len_below) l.invariant

pub loop-param-preserved : goal.loop-param-preserved
loop-param-preserved c =
    let l = c.loop-param in
    let ps = c.args.params.now in
    let p = c.param-item.result in
    let here : drop l.param-index ps ≡ p ∷ drop (l.param-index + 1) ps = drop_more ps l.param-index p (omega arith) ∙ ap (λ y. y ∷ drop (l.param-index + 1) ps) (sym c.param-item.is) in
    let goes : goes_out p.way ≡ true = sym c.goes_out.ensures ∙ c.if-not-goes_out.false in
    let v = c.value-item.result in
    let d = c.in_ok-to_json.field-0 in
    let e : map view c.push.new.self.items ≡ map view l.list.items ++ view d ∷ [] = rw c.in_ok-push.ensures.items (map_push view l.list.items d) in
    rw e (outs_on (map view l.list.items) (drop l.param-index ps) (drop (l.param-index + 1) ps) p l.rest.now _ v (view d) _ here goes
    (front_of l.rest.now v _ c.in-len1-up.len_at_least c.value-item.is) c.in_ok-to_json.ensures l.invariant)

pub returns : goal.returns
returns c =
    let l = c.loop-param in
    outs_done (map view l.list.items) (drop l.param-index c.args.params.now) l.rest.now _ (drop_all l.param-index _ (omega arith)) l.invariant
