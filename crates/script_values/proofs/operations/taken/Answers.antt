use Rattle.std.proofs.Common.{◌≡◌, refl, ap, ◌∙◌, arith, Some}
use Rattle.std.proofs.lemmas.Option.{slice_get-map, slice_get-get_or, slice_get_past}
use Rattle.cdr_values.specs.Values.{value_of, values_view}
use Rattle.script_values.specs.Operations.{as_items}
use Rattle.script_values.proofs.Trees.{as_items-Items}
use Rattle.script_values.proofs.operations.taken.Goals as goal

pub returns-then-at-len : goal.returns-then-at-len
returns-then-at-len c =
    let vs = c.in-Items.values in
    let e : as_items (value_of c.args.value) ≡ values_view vs.items = ap (λ v. as_items (value_of v)) c.in-Items.is ∙ as_items-Items vs in
    rw (e, slice_get-map value_of vs.items c.args.at, slice_get-get_or vs.items c.args.at c.swap_remove.result (omega arith)) (ap (λ x. Some (value_of x)) c.swap_remove.ensures.value)

pub returns-in-Items : goal.returns-in-Items
returns-in-Items c =
    let vs = c.in-Items.values in
    let e : as_items (value_of c.args.value) ≡ values_view vs.items = ap (λ v. as_items (value_of v)) c.in-Items.is ∙ as_items-Items vs in
    rw (e, slice_get-map value_of vs.items c.args.at, slice_get_past vs.items c.args.at (omega arith)) refl
