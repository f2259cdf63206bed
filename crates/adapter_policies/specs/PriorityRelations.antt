-- What holds of the priorities of a configuration's lanes, adapters, transforms and objects: own profile.
use Rattle.std.specs.Prelude.{ℕ, ◌==◌, ◌&&◌, ◌||◌, Bool, true, not, List, Option, Some, None, position, codes}
use Rattle.std.specs.List.{list_any}
use Rattle.priority_maps.specs.Maps.{PriorityMap}
use Rattle.config_tables.specs.Fault.{Fault, first_of}
use Rattle.config_tables.specs.declared.fault.ConfigCause.{ConfigCause}
use Rattle.config_tables.specs.declared.fault.ConfigCause.TheVariants.{PriorityNotALane, NoNative}
use Rattle.adapter_policies.specs.Found.{adapter_key, adapters_fault, entry_key_fault, fault_where, inbound_path}
use Rattle.adapter_policies.specs.MapRelations.{has_native}
use Rattle.adapter_policies.specs.Tables.{PoolSaid, AdapterSaid}
use Rattle.adapter_policies.specs.declared.object.ObjectTable.{ObjectTable}

-- a priority of an object's own, where it has one, meets a test
abbrev pub own_meets : (ℕ → Bool) → Option ℕ → Bool
own_meets test None = true
own_meets test (Some p) = test p

-- the priority of the adapter of a number where it doesn't meet a test, and then the first one that a row of its transform gives
unfoldable pub level_fault : ConfigCause → (ℕ → Bool) → ℕ → AdapterSaid → Option Fault
level_fault cause test n a =
    first_of (fault_where (not (test a.priority)) (adapter_key n (codes "priority")) cause)
    (entry_key_fault (inbound_path n) (codes "to") cause (position (λ row. not (test row.to)) a.inbound))

-- the first such priority, adapter by adapter, and then the first object's own
abbrev pub unmet_fault : ConfigCause → (ℕ → Bool) → List AdapterSaid → List ObjectTable → Option Fault
unmet_fault cause test adapters objects =
    first_of (adapters_fault (level_fault cause test) 0 adapters)
    (entry_key_fault (codes "object") (codes "priority") cause (position (λ o. not (own_meets test o.priority)) objects))

-- a priority is that of a lane, or there are no lanes
abbrev pub has_lane : PoolSaid → ℕ → Bool
has_lane pool p = not pool.laned || list_any (λ l. l.priority == p) pool.lanes

-- the first priority of an adapter, a row of a transform or an object that is no lane's
unfoldable pub not_a_lane_fault : PoolSaid → List AdapterSaid → List ObjectTable → Option Fault
not_a_lane_fault pool adapters objects = unmet_fault PriorityNotALane (has_lane pool) adapters objects

-- each priority has a native one: of the lanes, or of the pool without lanes
unfoldable pub pool_native_fault : PriorityMap → PoolSaid → Option Fault
pool_native_fault m pool =
    first_of (entry_key_fault (codes "pool.lanes") (codes "priority") NoNative (position (λ l. not (has_native m l.priority)) pool.lanes))
    (fault_where (not pool.laned && not (has_native m pool.priority)) (codes "pool.default_priority") NoNative)

-- then of adapters, rows of transforms and objects
unfoldable pub no_native_fault : PriorityMap → PoolSaid → List AdapterSaid → List ObjectTable → Option Fault
no_native_fault m pool adapters objects =
    first_of (pool_native_fault m pool) (unmet_fault NoNative (has_native m) adapters objects)
