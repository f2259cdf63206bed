-- What holds of the map of a configuration, and which priorities have a native one: own profile.
use Rattle.std.specs.Prelude.{ℕ, ◌&&◌, Bool, true, not, nat_le, int_le, List, [], ◌∷◌, map, Option, Some, None, is_some, codes, if◌then◌else◌}
use Rattle.priority_maps.specs.Linear.{LinearMap, identity}
use Rattle.priority_maps.specs.Maps.{PriorityMap, linear, table, to_native}
use Rattle.priority_maps.specs.declared.row.MapRow.{MapRow}
use Rattle.config_tables.specs.Fault.{Fault}
use Rattle.config_tables.specs.declared.fault.ConfigCause.TheVariants.{BadMap}
use Rattle.adapter_policies.specs.Found.{fault_where}
use Rattle.adapter_policies.specs.PoolRelations.{is_above}
use Rattle.adapter_policies.specs.Tables.{MapSaid}
use Rattle.adapter_policies.specs.declared.row.RowTable.{RowTable}

-- the ends of a linear map are in order
abbrev pub ends_ordered : MapSaid → Bool
ends_ordered m = nat_le m.corba_low m.corba_high && int_le m.native_low m.native_high

-- each row's ends are in order, and its low end is above the high end of the row before it
abbrev pub rows_rise : Option ℕ → List RowTable → Bool
rows_rise before [] = true
rows_rise before (row ∷ rows) = is_above before row.low && (nat_le row.low row.high && rows_rise (Some row.high) rows)

-- a linear map's ends are in order, and a table map's rows rise
abbrev pub is_lawful : MapSaid → Bool
is_lawful m = if m.linear then ends_ordered m else rows_rise None m.rows

-- a map that isn't lawful is at fault; where there is none, nothing is
abbrev pub map_fault : Option MapSaid → Option Fault
map_fault None = None
map_fault (Some m) = fault_where (not (is_lawful m)) (codes "map") BadMap

-- the linear map from end to end
abbrev pub linear_of : MapSaid → LinearMap
linear_of m = record { low = m.corba_low; high = m.corba_high; native_low = m.native_low; native_high = m.native_high }

-- a row of a table map
abbrev pub row_made : RowTable → MapRow
row_made row = record { band = record { low = row.low; high = row.high }; native = row.native }

-- the map that a table describes; without one it is the identity
abbrev pub described : MapSaid → PriorityMap
described m = if m.linear then linear (linear_of m) else table (map row_made m.rows)

-- the map that is described, and without one each priority's own number
abbrev pub priority_map : Option MapSaid → PriorityMap
priority_map None = linear identity
priority_map (Some m) = described m

-- whether a priority has a native one
abbrev pub has_native : PriorityMap → ℕ → Bool
has_native m p = is_some (to_native m p)
