use Rattle.std.proofs.Common.{◌≡◌, drop}
use Rattle.script_values.specs.Evaluation.{value_at, filled, blanks_of}
use Rattle.script_values.specs.Trees.{literal, terms_of, spine}
use Rattle.cdr_values.specs.Values.{values_view}
use Rattle.idl_types.specs.Contents.{things_of}
use Rattle.script_values.specs.Views.{seen_of, joints_view, parts_view}
use Rattle.script_values.proofs.evaluation.+eval.Given as goal

abbrev pub invariant-fill-loop-element : goal.invariant-fill-loop-element
invariant-fill-loop-element l =
    filled l.priority (values_view l.slots) (terms_of (parts_view (things_of l.repository) (drop l.element-index l.elements))) (values_view l.values.items)
    ≡ filled l.priority (values_view l.slots) (terms_of (parts_view (things_of l.repository) l.elements)) (blanks_of (terms_of (parts_view (things_of l.repository) l.elements)))

abbrev pub invariant-eval_links-loop-link : goal.invariant-eval_links-loop-link
invariant-eval_links-loop-link l =
    value_at l.priority (values_view l.slots) (spine (literal (seen_of l.value)) (joints_view (things_of l.repository) (drop l.link-index l.links)))
    ≡ value_at l.priority (values_view l.slots) (spine (literal (seen_of l.fn.first)) (joints_view (things_of l.repository) l.links))
