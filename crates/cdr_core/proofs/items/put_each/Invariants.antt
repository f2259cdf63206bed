use Rattle.std.proofs.Common.{◌≡◌, take}
use Rattle.std.specs.List.{flat_map}
use Rattle.cdr_core.specs.Lists.{item_fields}
use Rattle.cdr_core.specs.Writing.{written}
use Rattle.cdr_core.proofs.items.put_each.Given as goal

abbrev pub invariant-loop-value : goal.invariant-loop-value
invariant-loop-value g l = l.into ≡ written l.fn.into (flat_map (λ x. item_fields (g.T.Item.item x)) (take l.value-index l.list))
