use Rattle.std.proofs.Common.{◌≡◌, false, ap, ◌∙◌}
use Rattle.serde_json.specs.Data as json
use Rattle.serde_json.specs.View.{view}
use Rattle.serde_json.specs.Written.{has_float, compact_text}
use Rattle.serde_json.specs.declared.value.Value.TheVariants.{Array}
use Rattle.serde_json.proofs.Views.{view-Array}
use Rattle.cdr_values.specs.Values.{values_view}
use Rattle.idl_types.specs.Views.{operation_of}
use Rattle.value_json.specs.Operations.{kinds_out, shown_of_each}
use Rattle.value_json.proofs.NoFloats.{no_float_of_each}
use Rattle.value_json.proofs.results.results_json.Goals as goal

pub returns : goal.returns
returns c =
    let ks = kinds_out (operation_of c.args.operation.now) in
    let vs = values_view c.args.values.now in
    let shown : view (Array c.in_ok-list.list) ≡ json.array (shown_of_each ks vs) = view-Array c.in_ok-list.list ∙ ap json.array c.in_ok-list.ensures in
    let free : has_float (view (Array c.in_ok-list.list)) ≡ false = rw shown (no_float_of_each ks vs) in
    c.in_ok-to_string.ensures.text free ∙ ap compact_text shown
