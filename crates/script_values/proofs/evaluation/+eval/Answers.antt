use Rattle.std.proofs.Common.{◌≡◌, ◌+◌, ◌∷◌, drop, sym, ap, ◌∙◌, arith}
use Rattle.std.proofs.lemmas.List.{drop_more, drop_all}
use Rattle.std.proofs.lemmas.Result.{err_from_is_err_and}
use Rattle.cdr_values.specs.Values.{values_view}
use Rattle.idl_types.specs.Contents.{things_of}
use Rattle.script_values.specs.Trees.{literal, spine}
use Rattle.script_values.specs.Evaluation.{value_at}
use Rattle.script_values.specs.Views.{seen_of, joints_view}
use Rattle.script_values.proofs.Chains.{expr_stops, expr_goes_on, link_stops, link_goes_on}
use Rattle.script_values.proofs.evaluation.+eval.Goals as goal

pub eval-returns-in_err-first : goal.eval-returns-in_err-first
eval-returns-in_err-first t c =
    let p = err_from_is_err_and c.from_residual.result c.from_residual.ensures.1 in
    rw (p.1, p.2) (expr_stops c.args.priority (values_view c.args.slots.now) (things_of c.args.repository.now) c.args.expr.now c.in_err-first.field-0.0 c.in_err-first.ensures)

pub eval-returns : goal.eval-returns
eval-returns t c =
    rw (expr_goes_on c.args.priority (values_view c.args.slots.now) (things_of c.args.repository.now) c.args.expr.now (seen_of c.in_ok-first.first) c.in_ok-first.ensures, sym c.as_slice.ensures.value)
    c.eval_links.ensures

pub eval_links-returns-in_err-value : goal.eval_links-returns-in_err-value
eval_links-returns-in_err-value t c =
    let l = c.loop-link in
    let ls = c.args.links.now in
    let k = c.link-item.result in
    let here : drop l.link-index ls ≡ k ∷ drop (l.link-index + 1) ls = drop_more ls l.link-index k (omega arith) ∙ ap (λ y. y ∷ drop (l.link-index + 1) ls) (sym c.link-item.is) in
    let p = err_from_is_err_and c.from_residual.result c.from_residual.ensures.1 in
    let all : value_at c.args.priority (values_view c.args.slots.now) (spine (literal (seen_of l.value)) (joints_view (things_of c.args.repository.now) (k ∷ drop (l.link-index + 1) ls)))
    ≡ value_at c.args.priority (values_view c.args.slots.now) (spine (literal (seen_of c.args.first)) (joints_view (things_of c.args.repository.now) ls)) =
    ap (λ ks. value_at c.args.priority (values_view c.args.slots.now) (spine (literal (seen_of l.value)) (joints_view (things_of c.args.repository.now) ks))) (sym here) ∙ l.invariant in
    rw (p.1, p.2, sym all) (link_stops c.args.priority (values_view c.args.slots.now) (things_of c.args.repository.now) (seen_of l.value) k (drop (l.link-index + 1) ls) c.in_err-value.field-0.0 c.in_err-value.ensures)

pub eval_links-loop-link-preserved : goal.eval_links-loop-link-preserved
eval_links-loop-link-preserved t c =
    let l = c.loop-link in
    let ls = c.args.links.now in
    let k = c.link-item.result in
    let here : drop l.link-index ls ≡ k ∷ drop (l.link-index + 1) ls = drop_more ls l.link-index k (omega arith) ∙ ap (λ y. y ∷ drop (l.link-index + 1) ls) (sym c.link-item.is) in
    link_goes_on c.args.priority (values_view c.args.slots.now) (things_of c.args.repository.now) (seen_of l.value) (seen_of c.in_ok-value.value) k (drop (l.link-index + 1) ls) c.in_ok-value.ensures
    ∙ ap (λ ks. value_at c.args.priority (values_view c.args.slots.now) (spine (literal (seen_of l.value)) (joints_view (things_of c.args.repository.now) ks))) (sym here)
    ∙ l.invariant

pub eval_links-returns : goal.eval_links-returns
unfolding value_at
eval_links-returns t c =
    let l = c.loop-link in
    sym l.invariant
    ∙ ap (λ ks. value_at c.args.priority (values_view c.args.slots.now) (spine (literal (seen_of l.value)) (joints_view (things_of c.args.repository.now) ks))) (drop_all l.link-index c.args.links.now (omega arith))
