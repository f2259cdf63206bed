-- What holds within the pool and the server of a configuration: own profile.
use Rattle.std.specs.Prelude.{ℕ, ◌+◌, ◌*◌, ◌/◌, ◌==◌, ◌&&◌, Bool, true, not, nat_lt, List, [], ◌∷◌, map, Option, Some, None, unwrap_or, position, sum_by, codes, if◌then◌else◌}
use Rattle.config_tables.specs.Fault.{Fault, first_of}
use Rattle.config_tables.specs.declared.fault.ConfigCause.TheVariants.{LaneOrder, NoThread, TooManyThreads, SlotLimit, BorrowWithoutLanes}
use Rattle.adapter_policies.specs.Found.{fault_where, entry_fault, entry_key_fault}
use Rattle.adapter_policies.specs.Tables.{PoolSaid}
use Rattle.adapter_policies.specs.declared.lane.LaneTable.{LaneTable}
use Rattle.adapter_policies.specs.declared.server.ServerTable.{ServerTable}

-- a priority is above the one before it, if there is one
abbrev pub is_above : Option ℕ → ℕ → Bool
is_above None p = true
is_above (Some before) p = nat_lt before p

-- the number of the first priority that isn't above the one before it
abbrev pub out_of_order : Option ℕ → ℕ → List ℕ → Option ℕ
out_of_order before n [] = None
out_of_order before n (p ∷ ps) = if is_above before p then out_of_order (Some p) (n + 1) ps else Some n

-- each lane's priority is above that of the lane before it
abbrev pub lane_order_fault : PoolSaid → Option Fault
lane_order_fault pool =
    entry_key_fault (codes "pool.lanes") (codes "priority") LaneOrder (out_of_order None 0 (map (λ l. l.priority) pool.lanes))

-- a lane has no thread
abbrev pub is_idle : LaneTable → Bool
is_idle lane = lane.statics == 0 && lane.dynamics == 0

-- each lane, or the pool without lanes, has a thread
abbrev pub no_thread_fault : PoolSaid → Option Fault
no_thread_fault pool =
    first_of (entry_fault (codes "pool.lanes") NoThread (position is_idle pool.lanes))
    (fault_where (not pool.laned && (pool.statics == 0 && pool.dynamics == 0)) (codes "pool") NoThread)

-- the threads of the lanes and of the pool itself; of the two only one kind is
abbrev pub pool_threads : PoolSaid → ℕ
pool_threads pool = sum_by (λ l. l.statics + l.dynamics) pool.lanes + (pool.statics + pool.dynamics)

-- there are at most 64 threads
abbrev pub thread_count_fault : PoolSaid → Option Fault
thread_count_fault pool = fault_where (nat_lt 64 (pool_threads pool)) (codes "pool") TooManyThreads

-- the slots of a server and its connections per slot, or their defaults: 4 slots, and 128 connections shared among them
abbrev pub slots_of : Option ServerTable → ℕ
slots_of None = 4
slots_of (Some server) = unwrap_or server.slots 4

-- the connections of a slot; without the key 128 over the slots, rounded down
abbrev pub per_slot_of : Option ServerTable → ℕ
per_slot_of None = 32
per_slot_of (Some server) = unwrap_or server.per_slot (128 / slots_of (Some server))

-- the slots have at most 128 connections together
abbrev pub slot_limit_fault : Option ServerTable → Option Fault
slot_limit_fault server = fault_where (nat_lt 128 (slots_of server * per_slot_of server)) (codes "server") SlotLimit

-- only a pool with lanes lends threads
abbrev pub borrowing_fault : PoolSaid → Option Fault
borrowing_fault pool = fault_where (pool.borrowing && not pool.laned) (codes "pool.borrowing") BorrowWithoutLanes
