use Rattle.std.proofs.Common.{◌≡◌, true, ◌+◌, [], ◌∷◌, ◌++◌, drop, sym, ap, ◌∙◌, arith}
use Rattle.std.proofs.lemmas.List.{map_push, drop_more, drop_all}
use Rattle.std.proofs.lemmas.Result.{err_from_is_err_and}
use Rattle.cdr_values.proofs.Endings.{front_of}
use Rattle.cdr_values.specs.Values.{value_of, values_view}
use Rattle.value_json.specs.Operations.{goes_in}
use Rattle.value_json.proofs.Answering.{args_on, args_fail, args_few, args_done, args_many, none_below, none_when, some_when}
use Rattle.value_json.proofs.arguments.each_from.Goals as goal

pub returns-in_default : goal.returns-in_default
returns-in_default c =
    let l = c.loop-param in
    let ps = c.args.params.now in
    let p = c.param-item.result in
    let here : drop l.param-index ps ≡ p ∷ drop (l.param-index + 1) ps = drop_more ps l.param-index p (omega arith) ∙ ap (λ y. y ∷ drop (l.param-index + 1) ps) (sym c.param-item.is) in
    let goes : goes_in p.way ≡ true = sym c.goes_in.ensures ∙ c.if-not-goes_in.false in
    args_few (values_view l.values.items) (drop l.param-index ps) (drop (l.param-index + 1) ps) p l.rest.now _ here goes (none_below l.rest.now c.in_default.len_below) l.invariant

pub returns-in_err-from_json : goal.returns-in_err-from_json
returns-in_err-from_json c =
    let l = c.loop-param in
    let ps = c.args.params.now in
    let p = c.param-item.result in
    let here : drop l.param-index ps ≡ p ∷ drop (l.param-index + 1) ps = drop_more ps l.param-index p (omega arith) ∙ ap (λ y. y ∷ drop (l.param-index + 1) ps) (sym c.param-item.is) in
    let goes : goes_in p.way ≡ true = sym c.goes_in.ensures ∙ c.if-not-goes_in.false in
    let d = c.json-item.result in
    let q = err_from_is_err_and c.from_residual-in_err-from_json.result c.from_residual-in_err-from_json.ensures.1 in
    rw (q.1, q.2) (args_fail (values_view l.values.items) (drop l.param-index ps) (drop (l.param-index + 1) ps) p l.rest.now _ d _ here goes
    (front_of l.rest.now d _ c.in-len1-up.len_at_least c.json-item.is) l.invariant c.in_err-from_json.field-0.0 c.in_err-from_json.ensures)

pub loop-param-preserved : goal.loop-param-preserved
loop-param-preserved c =
    let l = c.loop-param in
    let ps = c.args.params.now in
    let p = c.param-item.result in
    let here : drop l.param-index ps ≡ p ∷ drop (l.param-index + 1) ps = drop_more ps l.param-index p (omega arith) ∙ ap (λ y. y ∷ drop (l.param-index + 1) ps) (sym c.param-item.is) in
    let goes : goes_in p.way ≡ true = sym c.goes_in.ensures ∙ c.if-not-goes_in.false in
    let d = c.json-item.result in
    let v = c.in_ok-from_json.field-0 in
    let e : values_view c.push.new.self.items ≡ values_view l.values.items ++ value_of v ∷ [] = rw c.in_ok-push.ensures.items (map_push _ l.values.items v) in
    rw e (args_on (values_view l.values.items) (drop l.param-index ps) (drop (l.param-index + 1) ps) p l.rest.now _ d _ here goes
    (front_of l.rest.now d _ c.in-len1-up.len_at_least c.json-item.is) l.invariant (value_of v) c.in_ok-from_json.ensures)

pub returns-then-is_empty : goal.returns-then-is_empty
returns-then-is_empty c =
    let l = c.loop-param in
    rw c.from_vec.ensures (args_done (values_view l.values.items) (drop l.param-index c.args.params.now) l.rest.now _ (drop_all l.param-index _ (omega arith))
    (none_when l.rest.now c.is_empty.result c.is_empty.ensures c.if-is_empty.true) l.invariant)

pub returns-else-is_empty : goal.returns-else-is_empty
returns-else-is_empty c =
    let l = c.loop-param in
    args_many (values_view l.values.items) (drop l.param-index c.args.params.now) l.rest.now _ (drop_all l.param-index _ (omega arith))
    (some_when l.rest.now c.is_empty.result c.is_empty.ensures c.if-is_empty.false) l.invariant
