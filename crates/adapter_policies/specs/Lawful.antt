-- What holds of a configuration without a fault, as a reader would say it: own profile.
use Rattle.std.specs.Prelude.{◌≡◌, ◌≢◌, ◌<◌, ◌≤◌, ◌+◌, ◌*◌, ℕ, true, false, List, [], map, All, AllPairs, Any, IsSome, IfSome}
use Rattle.std.specs.List.Sorted.{IsStrictlyIncreasing}
use Rattle.orb_base.specs.declared.priority_model.PriorityModel.TheVariants.{ClientPropagated, ServerDeclared}
use Rattle.priority_maps.specs.Maps.{PriorityMap, to_native}
use Rattle.adapter_policies.specs.BandRelations.{rows_share_one, share_one}
use Rattle.adapter_policies.specs.Document.{DocumentSaid}
use Rattle.adapter_policies.specs.MapRelations.{is_lawful, priority_map}
use Rattle.adapter_policies.specs.PoolRelations.{pool_threads, per_slot_of, slots_of}
use Rattle.adapter_policies.specs.Tables.{AdapterSaid, PoolSaid}
use Rattle.adapter_policies.specs.declared.band.BandTable.{BandTable}
use Rattle.adapter_policies.specs.declared.object.ObjectTable.{ObjectTable}

-- a pool: its lanes rise, each lane, or the pool without lanes, has a thread, there are at most 64 threads, and only lanes lend
pub record PoolHolds (pool : PoolSaid) : Type 0 where
  pub rising : IsStrictlyIncreasing (map (λ lane. lane.priority) pool.lanes)
  pub staffed : All (λ lane. 0 < lane.statics + lane.dynamics) pool.lanes
  pub staffed_whole : pool.laned ≡ false → 0 < pool.statics + pool.dynamics
  pub few : pool_threads pool ≤ 64
  pub lends : pool.borrowing ≡ true → pool.laned ≡ true

-- the pool holds, the slots have at most 128 connections together, and the map is lawful
pub record PartsHold (d : DocumentSaid) : Type 0 where
  pub pool : PoolHolds d.pool
  pub slots : slots_of d.server * per_slot_of d.server ≤ 128
  pub mapping : IfSome d.mapping (λ m. is_lawful m ≡ true)

-- the bands of an adapter: no low end is above its high one, no two share a priority, and with lanes each holds one's priority
pub record BandsHold (pool : PoolSaid) (bands : List BandTable) : Type 0 where
  pub ordered : All (λ b. b.low ≤ b.high) bands
  pub apart : AllPairs (λ a b. share_one a b ≡ false) bands
  pub within : pool.laned ≡ true → All (λ b. Any (λ lane. (b.low ≤ lane.priority) × (lane.priority ≤ b.high)) pool.lanes) bands

-- an object has a priority of its own only where its adapter declares priorities
abbrev pub MayHaveOwn : List AdapterSaid → ObjectTable → Type 0
MayHaveOwn adapters o = IsSome o.priority → All (λ a. a.name ≡ o.adapter → a.model ≡ ServerDeclared) adapters

-- adapters differ by their names and objects by their keys; each object's adapter is there, and lets its priority stand
pub record NamesHold (adapters : List AdapterSaid) (objects : List ObjectTable) : Type 0 where
  pub names : AllPairs (λ a b. a.name ≢ b.name) adapters
  pub keys : AllPairs (λ a b. a.key ≢ b.key) objects
  pub there : All (λ o. Any (λ a. a.name ≡ o.adapter) adapters) objects
  pub own : All (MayHaveOwn adapters) objects

-- a priority has a native one, and with lanes it is that of a lane
pub record IsServed (m : PriorityMap) (pool : PoolSaid) (p : ℕ) : Type 0 where
  pub native : IsSome (to_native m p)
  pub lane : pool.laned ≡ true → Any (λ lane. lane.priority ≡ p) pool.lanes

-- each priority that the configuration names has a native one, and with lanes those of adapters and objects are those of lanes
pub record LevelsHold (d : DocumentSaid) : Type 0 where
  pub lanes : All (λ lane. IsSome (to_native (priority_map d.mapping) lane.priority)) d.pool.lanes
  pub whole : d.pool.laned ≡ false → IsSome (to_native (priority_map d.mapping) d.pool.priority)
  pub adapters : All (λ a. IsServed (priority_map d.mapping) d.pool a.priority) d.adapters
  pub objects : All (λ o. IfSome o.priority (IsServed (priority_map d.mapping) d.pool)) d.objects

-- the transform of an adapter: it is there only where clients' priorities count, no low end of a row is above its high one, no two
-- rows share a priority, and the priority that a row gives has a native one, and with lanes is that of a lane
pub record TransformHolds (m : PriorityMap) (pool : PoolSaid) (a : AdapterSaid) : Type 0 where
  pub allowed : a.inbound ≢ [] → a.model ≡ ClientPropagated
  pub ordered : All (λ row. row.low ≤ row.high) a.inbound
  pub apart : AllPairs (λ x y. rows_share_one x y ≡ false) a.inbound
  pub served : All (λ row. IsServed m pool row.to) a.inbound

-- everything that has to hold between the tables of a configuration
pub record HoldsTogether (d : DocumentSaid) : Type 0 where
  pub parts : PartsHold d
  pub bands : All (λ a. BandsHold d.pool a.bands) d.adapters
  pub names : NamesHold d.adapters d.objects
  pub levels : LevelsHold d
  pub transforms : All (TransformHolds (priority_map d.mapping) d.pool) d.adapters
