-- Faults at the places where a relation of a configuration fails.
use Rattle.std.specs.Prelude.{ℕ, ◌+◌, ◌++◌, Bool, true, false, List, [], ◌∷◌, Option, Some, None, option_map, codes, if◌then◌else◌}
use Rattle.std.specs.List.{list_any}
use Rattle.config_tables.specs.Fault.{Fault, at_path, first_of}
use Rattle.config_tables.specs.Path.{key_path, entry_path}
use Rattle.config_tables.specs.declared.fault.ConfigCause.{ConfigCause}
use Rattle.adapter_policies.specs.Tables.{AdapterSaid}

-- a fault at a path where something holds
abbrev pub fault_where : Bool → List ℕ → ConfigCause → Option Fault
fault_where true path cause = Some (at_path path cause)
fault_where false path cause = None

-- a fault at the entry of a number, where there is one, of the list at a path
abbrev pub entry_fault : List ℕ → ConfigCause → Option ℕ → Option Fault
entry_fault path cause found = option_map (λ n. at_path (entry_path path n) cause) found

-- the same, at a key of that entry
abbrev pub entry_key_fault : List ℕ → List ℕ → ConfigCause → Option ℕ → Option Fault
entry_key_fault path key cause found = option_map (λ n. at_path (key_path (entry_path path n) key) cause) found

-- the number of the first thing that clashes with an earlier one; those before it clash with none
abbrev pub first_clash : {A : Type 0} → (A → A → Bool) → List A → ℕ → List A → Option ℕ
first_clash clash earlier n [] = None
first_clash clash earlier n (x ∷ xs) =
    if list_any (λ e. clash e x) earlier then Some n else first_clash clash (earlier ++ x ∷ []) (n + 1) xs

-- the path of a key of the adapter of a number
abbrev pub adapter_key : ℕ → List ℕ → List ℕ
adapter_key n key = key_path (entry_path (codes "adapter") n) key

-- the path of the bands of the adapter of a number
abbrev pub bands_path : ℕ → List ℕ
bands_path n = adapter_key n (codes "bands")

-- the path of the rows of the transform of the adapter of a number
abbrev pub inbound_path : ℕ → List ℕ
inbound_path n = adapter_key n (codes "inbound")

-- the first fault of adapters, adapter by adapter, where `fault` judges the one of a number
abbrev pub adapters_fault : (ℕ → AdapterSaid → Option Fault) → ℕ → List AdapterSaid → Option Fault
adapters_fault fault n [] = None
adapters_fault fault n (a ∷ more) = first_of (fault n a) (adapters_fault fault (n + 1) more)
