-- The first fault of tables by their descriptions.
use Rattle.std.specs.Prelude.{ℕ, ◌+◌, List, [], ◌∷◌, map, Option, Some, None}
use Rattle.toml.specs.Data.{Data, array, table, Members, get_member}
use Rattle.config_tables.specs.Fault.{Fault, first_of}
use Rattle.config_tables.specs.Keys.{unknown_fault}
use Rattle.config_tables.specs.Path.{key_path, entry_path}
use Rattle.config_tables.specs.Rules.{Scalar, Rule, Kind, one, entries, section, sections}
use Rattle.config_tables.specs.Standing.{Standing, standing}
use Rattle.config_tables.specs.Values.{scalar_cause, table_cause, list_cause, key_cause, fault_at, tables_in, tables_at}

-- the first fault at a key with a scalar
abbrev pub rule_fault : Rule Scalar → List ℕ → Members → Option Fault
rule_fault r path ms = fault_at (key_path path r.key) (key_cause (scalar_cause r.kind) (standing r.need ms) (get_member r.key ms))

-- the first fault of a table: an unknown key, then key by key
module _ {K : Type 0} (fault : Rule K → List ℕ → Members → Option Fault) where
  abbrev pub keys_fault : List (Rule K) → List ℕ → Members → Option Fault
  keys_fault [] path ms = None
  keys_fault (r ∷ rs) path ms = first_of (fault r path ms) (keys_fault rs path ms)

  abbrev pub table_fault : List (Rule K) → List ℕ → Members → Option Fault
  table_fault rules path ms = first_of (unknown_fault (map (λ r. r.key) rules) path ms) (keys_fault rules path ms)

-- the first fault of entries, each judged at its number
abbrev pub entries_fault : (List ℕ → Members → Option Fault) → List ℕ → ℕ → List Members → Option Fault
entries_fault fault path n [] = None
entries_fault fault path n (ms ∷ more) = first_of (fault (entry_path path n) ms) (entries_fault fault path (n + 1) more)

-- the first fault at a key with a list of so many tables: of the list, then of its entries
abbrev pub list_fault : (List ℕ → Members → Option Fault) → ℕ → ℕ → List ℕ → Standing → Option Data → Option Fault
list_fault fault low high path st d =
    first_of (fault_at path (key_cause (list_cause low high) st d)) (entries_fault fault path 0 (tables_at d))

-- the first fault at a key: of its value, then of the entries that are judged here
abbrev pub kind_fault : Kind → List ℕ → Standing → Option Data → Option Fault
kind_fault (one s) path st d = fault_at path (key_cause (scalar_cause s) st d)
kind_fault section path st d = fault_at path (key_cause table_cause st d)
kind_fault (sections low high) path st d = fault_at path (key_cause (list_cause low high) st d)
kind_fault (entries low high rules) path st d = list_fault (table_fault rule_fault rules) low high path st d

-- the same, of a line of a description
abbrev pub key_fault : Rule Kind → List ℕ → Members → Option Fault
key_fault r path ms = kind_fault r.kind (key_path path r.key) (standing r.need ms) (get_member r.key ms)

-- the first fault of a section: a table, or entries by number
abbrev pub section_fault : List (Rule Kind) → List ℕ → Option Data → Option Fault
section_fault rules path (Some (table ms)) = table_fault key_fault rules path ms
section_fault rules path (Some (array ds)) = entries_fault (table_fault key_fault rules) path 0 (tables_in ds)
section_fault rules path _ = None

-- the first fault of sections, in order
abbrev pub sections_fault : List (List ℕ × List (Rule Kind)) → Members → Option Fault
sections_fault [] ms = None
sections_fault (s ∷ more) ms = first_of (section_fault s.1 s.0 (get_member s.0 ms)) (sections_fault more ms)

-- the first fault of a document by the description of its own keys and of its sections
abbrev pub tables_fault : List (Rule Kind) → List (List ℕ × List (Rule Kind)) → Members → Option Fault
tables_fault top tables ms = first_of (table_fault key_fault top [] ms) (sections_fault tables ms)
