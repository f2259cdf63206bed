-- What the tables of a configuration say, as they are: own profile.
use Rattle.std.specs.Prelude.{ℕ, ℤ, Bool, List, map, is_some, codes, if◌then◌else◌}
use Rattle.toml.specs.Data.{Members, get_member}
use Rattle.orb_base.specs.declared.priority_model.PriorityModel.{PriorityModel}
use Rattle.orb_base.specs.declared.priority_model.PriorityModel.TheVariants.{ClientPropagated, ServerDeclared}
use Rattle.config_tables.specs.Keys.{same_text}
use Rattle.config_tables.specs.Held.{number_at, native_at, text_at, truth_at, number_of, where_there}
use Rattle.config_tables.specs.Rules.{says}
use Rattle.config_tables.specs.Standing.{holds}
use Rattle.config_tables.specs.Values.{tables_at}
use Rattle.adapter_policies.specs.declared.band.BandTable.{BandTable}
use Rattle.adapter_policies.specs.declared.inbound.InboundTable.{InboundTable}
use Rattle.adapter_policies.specs.declared.lane.LaneTable.{LaneTable}
use Rattle.adapter_policies.specs.declared.row.RowTable.{RowTable}
use Rattle.adapter_policies.specs.declared.server.ServerTable.{ServerTable}
use Rattle.adapter_policies.specs.declared.object.ObjectTable.{ObjectTable}

-- a row of a map
abbrev pub row_of : Members → RowTable
row_of ms = record { low = number_at (codes "low") ms; high = number_at (codes "high") ms; native = native_at (codes "native") ms }

-- a map; of the four ends and the rows only those of its kind are there
pub record MapSaid : Type 0 where
  pub linear : Bool
  pub corba_low : ℕ
  pub corba_high : ℕ
  pub native_low : ℤ
  pub native_high : ℤ
  pub rows : List RowTable

-- what the table of the map says
abbrev pub map_of : Members → MapSaid
map_of ms = record {
  linear = holds (says (codes "kind") (codes "linear")) ms;
  corba_low = number_at (codes "corba_low") ms;
  corba_high = number_at (codes "corba_high") ms;
  native_low = native_at (codes "native_low") ms;
  native_high = native_at (codes "native_high") ms;
  rows = map row_of (tables_at (get_member (codes "rows") ms));
}

-- a lane of the pool
abbrev pub lane_at : Members → LaneTable
lane_at ms = record { priority = number_at (codes "priority") ms; statics = number_at (codes "static") ms; dynamics = number_at (codes "dynamic") ms }

-- a pool; without lanes it has threads and a priority of its own
pub record PoolSaid : Type 0 where
  pub borrowing : Bool
  pub buffering : Bool
  pub max_requests : ℕ
  pub max_bytes : ℕ
  pub laned : Bool
  pub lanes : List LaneTable
  pub statics : ℕ
  pub dynamics : ℕ
  pub priority : ℕ

-- what the table of the pool says
abbrev pub pool_of : Members → PoolSaid
pool_of ms = record {
  borrowing = truth_at (codes "borrowing") ms;
  buffering = truth_at (codes "buffering") ms;
  max_requests = number_at (codes "max_buffered_requests") ms;
  max_bytes = number_at (codes "max_request_buffer_size") ms;
  laned = is_some (get_member (codes "lanes") ms);
  lanes = map lane_at (tables_at (get_member (codes "lanes") ms));
  statics = number_at (codes "static") ms;
  dynamics = number_at (codes "dynamic") ms;
  priority = number_at (codes "default_priority") ms;
}

-- an object
abbrev pub object_of : Members → ObjectTable
object_of ms = record {
  key = text_at (codes "key") ms;
  adapter = text_at (codes "adapter") ms;
  interface = text_at (codes "interface") ms;
  priority = where_there number_of (get_member (codes "priority") ms);
}

-- the limits of a server, where they are there
abbrev pub server_of : Members → ServerTable
server_of ms = record {
  slots = where_there number_of (get_member (codes "slots") ms);
  per_slot = where_there number_of (get_member (codes "per_slot") ms);
  max_calls = where_there number_of (get_member (codes "max_calls") ms);
  max_bytes = where_there number_of (get_member (codes "max_bytes") ms);
}

-- a band of an adapter, whose ends may be reversed
abbrev pub band_of : Members → BandTable
band_of ms = record { low = number_at (codes "low") ms; high = number_at (codes "high") ms }

-- a row of an adapter's transform, whose ends may be reversed
abbrev pub inbound_of : Members → InboundTable
inbound_of ms = record { low = number_at (codes "low") ms; high = number_at (codes "high") ms; to = number_at (codes "to") ms }

-- the model of a word: there are two words
abbrev pub model_named : List ℕ → PriorityModel
model_named w = if same_text w (codes "CLIENT_PROPAGATED") then ClientPropagated else ServerDeclared

-- an adapter
pub record AdapterSaid : Type 0 where
  pub name : List ℕ
  pub model : PriorityModel
  pub priority : ℕ
  pub bands : List BandTable
  pub inbound : List InboundTable

-- what the table of an adapter says
abbrev pub adapter_of : Members → AdapterSaid
adapter_of ms = record {
  name = text_at (codes "name") ms;
  model = model_named (text_at (codes "model") ms);
  priority = number_at (codes "priority") ms;
  bands = map band_of (tables_at (get_member (codes "bands") ms));
  inbound = map inbound_of (tables_at (get_member (codes "inbound") ms));
}
