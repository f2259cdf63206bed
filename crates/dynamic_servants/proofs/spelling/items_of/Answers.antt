use Rattle.std.proofs.Common.{◌≡◌, sym, ap, ◌∙◌}
use Rattle.cdr_values.specs.Trees.{items, values_of}
use Rattle.cdr_values.specs.Values.{value_of, values_view}
use Rattle.script_values.proofs.Trees.{value_of-Items}
use Rattle.script_values.proofs.Lists.{list_of_values}
use Rattle.dynamic_servants.proofs.spelling.items_of.Goals as goal

pub returns-in-Items : goal.returns-in-Items
returns-in-Items c =
    let e : value_of c.args.value.now ≡ items (values_of (values_view c.in-Items.values.items)) = ap value_of c.in-Items.is ∙ value_of-Items c.in-Items.values in
    rw (e, c.as_slice.ensures.value) (sym (list_of_values (values_view c.in-Items.values.items)))
