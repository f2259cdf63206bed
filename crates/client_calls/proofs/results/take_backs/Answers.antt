use Rattle.std.proofs.Common.{◌≡◌, true, ◌+◌, [], ◌∷◌, ◌++◌, drop, sym, ap, ◌∙◌, arith}
use Rattle.std.proofs.lemmas.List.{map_push, drop_more, drop_all}
use Rattle.std.proofs.lemmas.Result.{err_from_is_err_and}
use Rattle.cdr_values.specs.Values.{value_of, values_view}
use Rattle.value_json.specs.Operations.{goes_out}
use Rattle.client_calls.specs.Bodies.{cursor_of}
use Rattle.client_calls.proofs.Readings.{back_on, back_fails, backs_done}
use Rattle.client_calls.proofs.results.take_backs.Goals as goal

pub returns-in_err-value : goal.returns-in_err-value
returns-in_err-value c =
    let l = c.loop-param in
    let ps = c.args.params.now in
    let p = c.param-item.result in
    let here : drop l.param-index ps ≡ p ∷ drop (l.param-index + 1) ps = drop_more ps l.param-index p (omega arith) ∙ ap (λ y. y ∷ drop (l.param-index + 1) ps) (sym c.param-item.is) in
    let goes : goes_out p.way ≡ true = sym c.goes_out.ensures ∙ c.if-not-goes_out.false in
    let r = err_from_is_err_and c.from_residual.result c.from_residual.ensures.1 in
    rw (r.1, r.2) (back_fails c.in_err-value.field-0.0 (values_view l.values.items) (drop l.param-index ps) (drop (l.param-index + 1) ps) p (cursor_of l.body) _ here goes c.in_err-value.ensures l.invariant)

pub loop-param-preserved : goal.loop-param-preserved
loop-param-preserved c =
    let l = c.loop-param in
    let ps = c.args.params.now in
    let p = c.param-item.result in
    let here : drop l.param-index ps ≡ p ∷ drop (l.param-index + 1) ps = drop_more ps l.param-index p (omega arith) ∙ ap (λ y. y ∷ drop (l.param-index + 1) ps) (sym c.param-item.is) in
    let goes : goes_out p.way ≡ true = sym c.goes_out.ensures ∙ c.if-not-goes_out.false in
    let v = c.in_ok-value.value in
    let e : values_view c.add.new.values.items ≡ values_view l.values.items ++ value_of v ∷ [] = rw c.in_ok-add.ensures (map_push value_of l.values.items v) in
    rw e (back_on (values_view l.values.items) (drop l.param-index ps) (drop (l.param-index + 1) ps) p (cursor_of l.body) (value_of v) (cursor_of c.take.new.body) _ here goes c.in_ok-value.ensures
    l.invariant)

pub returns : goal.returns
returns c =
    let l = c.loop-param in
    (cursor_of l.body, backs_done (values_view l.values.items) (drop l.param-index c.args.params.now) (cursor_of l.body) _ (drop_all l.param-index _ (omega arith)) l.invariant)
