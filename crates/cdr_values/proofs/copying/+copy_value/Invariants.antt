use Rattle.std.proofs.Common.{◌≡◌, take}
use Rattle.cdr_values.specs.Values.{values_view}
use Rattle.cdr_values.proofs.copying.+copy_value.Given as goal

abbrev pub invariant-copy_values-loop-value : goal.invariant-copy_values-loop-value
invariant-copy_values-loop-value l = values_view l.copies.items ≡ values_view (take l.value-index l.values)
