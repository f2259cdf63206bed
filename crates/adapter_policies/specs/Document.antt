-- A configuration as one document, and what its tables say: own profile.
use Rattle.std.specs.Prelude.{◌≡◌, ℕ, List, [], map, Option, Some, None, option_map, codes}
use Rattle.std.specs.Str.{IsUtf8}
use Rattle.toml.specs.Data.{Data, table, Members, get_member}
use Rattle.toml.specs.Parse.{parse_document}
use Rattle.config_tables.specs.Fault.{Fault, at_path}
use Rattle.config_tables.specs.Held.{text_of, where_there, members_of}
use Rattle.config_tables.specs.Judging.{tables_fault}
use Rattle.config_tables.specs.Values.{tables_at}
use Rattle.config_tables.specs.declared.fault.ConfigCause.TheVariants.{NotToml}
use Rattle.adapter_policies.specs.Schema.{top_rules, section_rules}
use Rattle.adapter_policies.specs.Tables.{MapSaid, map_of, PoolSaid, pool_of, server_of, AdapterSaid, adapter_of, object_of}
use Rattle.adapter_policies.specs.declared.object.ObjectTable.{ObjectTable}
use Rattle.adapter_policies.specs.declared.server.ServerTable.{ServerTable}

-- the bytes are the TOML text of this document
abbrev pub IsDocument : List ℕ → Members → Type 0
IsDocument bytes ms = IsUtf8 bytes × (parse_document bytes ≡ Some ms)

-- the bytes are no TOML text, which has no path
abbrev pub IsNotToml : List ℕ → Fault → Type 0
IsNotToml bytes f = (f ≡ at_path [] NotToml) × ((ms : Members) → ¬ (IsDocument bytes ms))

-- the first fault of a document's tables by their descriptions
unfoldable pub document_fault : Members → Option Fault
document_fault ms = tables_fault top_rules section_rules ms

-- the members of a key that holds a table
abbrev pub section_in : Option Data → Option Members
section_in (Some (table ms)) = Some ms
section_in _ = None

-- what a whole document says
pub record DocumentSaid : Type 0 where
  pub idl : Option (List ℕ)
  pub scripts : Option (List ℕ)
  pub mapping : Option MapSaid
  pub pool : PoolSaid
  pub server : Option ServerTable
  pub adapters : List AdapterSaid
  pub objects : List ObjectTable

-- what the tables of a document say, all together
abbrev pub document_of : Members → DocumentSaid
document_of ms = record {
  idl = where_there text_of (get_member (codes "idl") ms);
  scripts = where_there text_of (get_member (codes "scripts") ms);
  mapping = option_map map_of (section_in (get_member (codes "map") ms));
  pool = pool_of (members_of (get_member (codes "pool") ms));
  server = option_map server_of (section_in (get_member (codes "server") ms));
  adapters = map adapter_of (tables_at (get_member (codes "adapter") ms));
  objects = map object_of (tables_at (get_member (codes "object") ms));
}
