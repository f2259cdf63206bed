-- Maps of either kind, and what holds of both.
use Rattle.std.specs.Prelude.{ℕ, ℤ, List, Option}
use Rattle.priority_maps.specs.Linear.{LinearMap, linear_native}
use Rattle.priority_maps.specs.Rows.{rows_native}
use Rattle.priority_maps.specs.declared.row.MapRow.{MapRow}

-- a map between CORBA priorities and native ones
pub data PriorityMap : Type 0 where
  linear : LinearMap → PriorityMap
  table : List MapRow → PriorityMap

-- the native priority of a CORBA one, where it has one
abbrev pub to_native : PriorityMap → ℕ → Option ℤ
to_native (linear m) p = linear_native m p
to_native (table rows) p = rows_native rows p
