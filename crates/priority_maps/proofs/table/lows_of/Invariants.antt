use Rattle.std.proofs.Common.{◌≡◌, ℤ, drop}
use Rattle.std.specs.Option.{option_or}
use Rattle.std.specs.BTreeMap.{get}
use Rattle.std.specs.Ordering.{int_cmp}
use Rattle.priority_maps.specs.Search.{first_low}
use Rattle.priority_maps.proofs.table.lows_of.Given as goal

abbrev pub invariant-loop-row : goal.invariant-loop-row
invariant-loop-row l = (n : ℤ) → option_or (get int_cmp l.lows n) (first_low n (drop l.row-index l.rows)) ≡ first_low n l.rows
