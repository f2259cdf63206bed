-- The tree of a value with items.
use Rattle.std.proofs.Common.{◌≡◌, sym, ap, ◌∙◌, Vec, Global}
use Rattle.cdr_values.specs.declared.value.IdlValue.{IdlValue}
use Rattle.cdr_values.specs.declared.value.IdlValue.TheVariants.{Items, rolls-Items}
use Rattle.cdr_values.specs.declared.value.IdlValue.TheFolds.{fold-roll-IdlValue}
use Rattle.cdr_values.specs.declared.value.IdlValue.TheOpen.{IdlValue-F}
use Rattle.cdr_values.specs.Trees.{Value, items, values_of}
use Rattle.cdr_values.specs.Values.{value_of, value_step, values_view}
use Rattle.script_values.specs.Operations.{as_items}
use Rattle.script_values.proofs.Lists.{list_of_values}

pub value_of-Items : (v : Vec IdlValue Global) → value_of (Items v) ≡ items (values_of (values_view v.items))
value_of-Items v = ap value_of (sym (rolls-Items v)) ∙ fold-roll-IdlValue Value value_step (IdlValue-F.Items v)

pub as_items-Items : (v : Vec IdlValue Global) → as_items (value_of (Items v)) ≡ values_view v.items
as_items-Items v = ap as_items (value_of-Items v) ∙ list_of_values (values_view v.items)
