-- What a configuration says, or its first fault: own profile.
use Rattle.std.specs.Prelude.{◌≡◌, ℕ, List, Option, Some, None, ◌⊎◌}
use Rattle.toml.specs.Data.{Members}
use Rattle.config_tables.specs.Fault.{Fault, first_of}
use Rattle.adapter_policies.specs.BandRelations.{band_empty_fault, overlap_fault, band_without_lane_fault}
use Rattle.adapter_policies.specs.Document.{DocumentSaid, IsDocument, IsNotToml, document_fault, document_of}
use Rattle.adapter_policies.specs.MapRelations.{map_fault, priority_map}
use Rattle.adapter_policies.specs.NameRelations.{duplicate_fault, unknown_adapter_fault, not_allowed_fault}
use Rattle.adapter_policies.specs.PoolRelations.{lane_order_fault, no_thread_fault, thread_count_fault, slot_limit_fault, borrowing_fault}
use Rattle.adapter_policies.specs.PriorityRelations.{not_a_lane_fault, no_native_fault}
use Rattle.adapter_policies.specs.SetupData.{SetupData, setup_of}
use Rattle.adapter_policies.specs.TransformRelations.{transform_not_allowed_fault}

-- the first relation within the pool, the server or the map that fails, in the order of the causes
unfoldable pub parts_fault : DocumentSaid → Option Fault
parts_fault d =
    first_of (lane_order_fault d.pool) (first_of (no_thread_fault d.pool) (first_of (thread_count_fault d.pool)
    (first_of (slot_limit_fault d.server) (first_of (borrowing_fault d.pool) (map_fault d.mapping)))))

-- the first relation between priorities, lanes, the map and transforms that fails, in the order of the causes
unfoldable pub levels_fault : DocumentSaid → Option Fault
levels_fault d =
    first_of (not_a_lane_fault d.pool d.adapters d.objects)
    (first_of (no_native_fault (priority_map d.mapping) d.pool d.adapters d.objects)
    (first_of (band_without_lane_fault d.pool d.adapters) (transform_not_allowed_fault d.adapters)))

-- the first relation between adapters and objects, and then between priorities, that fails
unfoldable pub links_fault : DocumentSaid → Option Fault
links_fault d =
    first_of (band_empty_fault d.adapters) (first_of (overlap_fault d.adapters)
    (first_of (duplicate_fault d.adapters d.objects) (first_of (unknown_adapter_fault d.adapters d.objects)
    (first_of (not_allowed_fault d.adapters d.objects) (levels_fault d)))))

-- the first relation that fails
unfoldable pub relations_fault : DocumentSaid → Option Fault
relations_fault d = first_of (parts_fault d) (links_fault d)

-- the first fault of a document: of its tables, then of what holds between them
abbrev pub first_fault : Members → Option Fault
first_fault ms = first_of (document_fault ms) (relations_fault (document_of ms))

-- the bytes are a configuration, and this is its setup
pub record Configures (bytes : List ℕ) (setup : SetupData) : Type 0 where
  pub document : Members
  pub text : IsDocument bytes document
  pub lawful : first_fault document ≡ None
  pub meaning : setup ≡ setup_of (document_of document)

-- this is the first fault of the bytes
abbrev pub HasFault : List ℕ → Fault → Type 0
HasFault bytes f = IsNotToml bytes f ⊎ ((ms : Members) × IsDocument bytes ms × (first_fault ms ≡ Some f))
