use Rattle.std.proofs.Common.{◌≡◌, ◌+◌, [], ◌∷◌, ◌++◌, map, drop, sym, ap, ◌∙◌, arith}
use Rattle.std.proofs.lemmas.List.{map_push, drop_more, drop_all}
use Rattle.serde_json.specs.View.{view}
use Rattle.cdr_values.specs.Trees.{scalar, size1, unsigned}
use Rattle.value_json.proofs.Loops.{each_on, each_done}
use Rattle.value_json.proofs.showing.octets_json.Goals as goal

pub loop-value-preserved : goal.loop-value-preserved
loop-value-preserved c =
    let l = c.loop-value in
    let vs = c.args.values.now in
    let v = c.value-item.result in
    let here : drop l.value-index vs ≡ v ∷ drop (l.value-index + 1) vs = drop_more vs l.value-index v (omega arith) ∙ ap (λ y. y ∷ drop (l.value-index + 1) vs) (sym c.value-item.is) in
    let d = c.octet_json.result in
    let e : map view c.push.new.self.items ≡ map view l.list.items ++ view d ∷ [] = rw c.in_ok-push.ensures.items (map_push view l.list.items d) in
    rw e (each_on (map view l.list.items) (scalar (unsigned size1)) (drop l.value-index vs) (drop (l.value-index + 1) vs) v (view d) _ here c.octet_json.ensures l.invariant)

pub returns : goal.returns
returns c =
    let l = c.loop-value in
    each_done (map view l.list.items) (scalar (unsigned size1)) (drop l.value-index c.args.values.now) _ (drop_all l.value-index _ (omega arith)) l.invariant
