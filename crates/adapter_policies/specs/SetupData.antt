-- The setup of a broker, and what a configuration makes of it: own profile.
use Rattle.std.specs.Prelude.{ℕ, List, [], ◌∷◌, map, Option, Some, None, unwrap_or, position, slice_get, if◌then◌else◌}
use Rattle.std.specs.Option.{option_map_or}
use Rattle.orb_base.specs.Pool.{Pool}
use Rattle.orb_base.specs.Span.{Span}
use Rattle.orb_base.specs.declared.lane_spec.LaneSpec.{LaneSpec}
use Rattle.orb_base.specs.declared.priority_model.PriorityModel.{PriorityModel}
use Rattle.priority_maps.specs.Maps.{PriorityMap}
use Rattle.priority_models.specs.declared.transform.TransformRow.{TransformRow}
use Rattle.adapter_policies.specs.Document.{DocumentSaid}
use Rattle.adapter_policies.specs.MapRelations.{priority_map}
use Rattle.adapter_policies.specs.NameRelations.{is_named}
use Rattle.adapter_policies.specs.PoolRelations.{slots_of, per_slot_of}
use Rattle.adapter_policies.specs.Tables.{PoolSaid, AdapterSaid}
use Rattle.adapter_policies.specs.declared.band.BandTable.{BandTable}
use Rattle.adapter_policies.specs.declared.inbound.InboundTable.{InboundTable}
use Rattle.adapter_policies.specs.declared.lane.LaneTable.{LaneTable}
use Rattle.adapter_policies.specs.declared.object.ObjectTable.{ObjectTable}
use Rattle.adapter_policies.specs.declared.object_spec.ObjectSpec.{ObjectSpec}
use Rattle.adapter_policies.specs.declared.server.ServerTable.{ServerTable}

-- an adapter
pub record AdapterData : Type 0 where
  pub name : List ℕ
  pub model : PriorityModel
  pub priority : ℕ
  pub bands : List Span
  pub inbound : List TransformRow

-- a setup
pub record SetupData : Type 0 where
  pub idl : Option (List ℕ)
  pub scripts : Option (List ℕ)
  pub mapping : PriorityMap
  pub pool : Pool
  pub slots : ℕ
  pub per_slot : ℕ
  pub adapters : List AdapterData
  pub objects : List ObjectSpec

-- a lane
abbrev pub lane_of : LaneTable → LaneSpec
lane_of lane = record { priority = lane.priority; statics = lane.statics; dynamics = lane.dynamics }

-- the lanes of a pool; without lanes it is one lane
abbrev pub lanes_of : PoolSaid → List LaneSpec
lanes_of pool =
    if pool.laned then map lane_of pool.lanes
    else record { priority = pool.priority; statics = pool.statics; dynamics = pool.dynamics } ∷ []

-- how many calls a run hears, and how many bytes it takes: 65,536 and 67,108,864 by default
abbrev pub run_calls_of : Option ServerTable → ℕ
run_calls_of None = 65536
run_calls_of (Some server) = unwrap_or server.max_calls 65536

-- the bytes that a run takes, and without the key the most that there can be
abbrev pub run_bytes_of : Option ServerTable → ℕ
run_bytes_of None = 67108864
run_bytes_of (Some server) = unwrap_or server.max_bytes 67108864

-- the pool, with the limits of the run
abbrev pub pool_made : PoolSaid → Option ServerTable → Pool
pool_made pool server = record {
  laned = pool.laned;
  lanes = lanes_of pool;
  borrowing = pool.borrowing;
  buffering = pool.buffering;
  max_requests = pool.max_requests;
  max_bytes = pool.max_bytes;
  run_calls = run_calls_of server;
  run_bytes = run_bytes_of server;
}

-- a band
abbrev pub span_of : BandTable → Span
span_of band = record { low = band.low; high = band.high }

-- a row of a transform
abbrev pub transform_row_of : InboundTable → TransformRow
transform_row_of row = record { band = record { low = row.low; high = row.high }; to = row.to }

-- an adapter as the setup has it
abbrev pub adapter_made : AdapterSaid → AdapterData
adapter_made a = record {
  name = a.name;
  model = a.model;
  priority = a.priority;
  bands = map span_of a.bands;
  inbound = map transform_row_of a.inbound;
}

-- the number of the adapter of a name, which is there
abbrev pub adapter_number : List AdapterSaid → List ℕ → ℕ
adapter_number adapters name = unwrap_or (position (is_named name) adapters) 0

-- the priority of the adapter of a number
abbrev pub priority_at : List AdapterSaid → ℕ → ℕ
priority_at adapters n = option_map_or (λ a. a.priority) (slice_get adapters n) 0

-- an object as the setup has it: its priority is its adapter's where it has none of its own
abbrev pub object_made : List AdapterSaid → ObjectTable → ObjectSpec
object_made adapters o = record {
  key = o.key;
  adapter = adapter_number adapters o.adapter;
  interface = o.interface;
  priority = unwrap_or o.priority (priority_at adapters (adapter_number adapters o.adapter));
}

-- the setup of a configuration, with the defaults of what it doesn't say
abbrev pub setup_of : DocumentSaid → SetupData
setup_of d = record {
  idl = d.idl;
  scripts = d.scripts;
  mapping = priority_map d.mapping;
  pool = pool_made d.pool d.server;
  slots = slots_of d.server;
  per_slot = per_slot_of d.server;
  adapters = map adapter_made d.adapters;
  objects = map (object_made d.adapters) d.objects;
}
