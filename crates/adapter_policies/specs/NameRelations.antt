-- What holds between the names of a configuration: own profile.
use Rattle.std.specs.Prelude.{ℕ, ◌&&◌, Bool, true, false, not, List, [], Option, is_some, position, codes}
use Rattle.std.specs.List.{list_any}
use Rattle.orb_base.specs.declared.priority_model.PriorityModel.{PriorityModel}
use Rattle.orb_base.specs.declared.priority_model.PriorityModel.TheVariants.{ClientPropagated, ServerDeclared}
use Rattle.config_tables.specs.Fault.{Fault, first_of}
use Rattle.config_tables.specs.Keys.{same_text}
use Rattle.config_tables.specs.declared.fault.ConfigCause.TheVariants.{Duplicate, UnknownAdapter, PriorityNotAllowed}
use Rattle.adapter_policies.specs.Found.{entry_key_fault, first_clash}
use Rattle.adapter_policies.specs.Tables.{AdapterSaid}
use Rattle.adapter_policies.specs.declared.object.ObjectTable.{ObjectTable}

-- two adapters have one name, two objects one key
abbrev pub same_name : AdapterSaid → AdapterSaid → Bool
same_name a b = same_text a.name b.name

-- two objects have one key
abbrev pub same_key : ObjectTable → ObjectTable → Bool
same_key a b = same_text a.key b.key

-- no two adapters have one name, and no two objects one key
abbrev pub duplicate_fault : List AdapterSaid → List ObjectTable → Option Fault
duplicate_fault adapters objects =
    first_of (entry_key_fault (codes "adapter") (codes "name") Duplicate (first_clash same_name [] 0 adapters))
    (entry_key_fault (codes "object") (codes "key") Duplicate (first_clash same_key [] 0 objects))

-- whether an adapter has this name
abbrev pub is_named : List ℕ → AdapterSaid → Bool
is_named name a = same_text a.name name

-- an object's adapter is there
abbrev pub is_stray : List AdapterSaid → ObjectTable → Bool
is_stray adapters o = not (list_any (is_named o.adapter) adapters)

-- the first object whose adapter isn't there
abbrev pub unknown_adapter_fault : List AdapterSaid → List ObjectTable → Option Fault
unknown_adapter_fault adapters objects =
    entry_key_fault (codes "object") (codes "adapter") UnknownAdapter (position (is_stray adapters) objects)

-- whether an adapter lets the client's priority stand
abbrev pub propagates : PriorityModel → Bool
propagates ClientPropagated = true
propagates ServerDeclared = false

-- whether an object has a priority of its own, which its adapter does not allow
abbrev pub is_too_many : List AdapterSaid → ObjectTable → Bool
is_too_many adapters o = is_some o.priority && list_any (λ a. is_named o.adapter a && propagates a.model) adapters

-- an object has a priority of its own only under an adapter that declares priorities
abbrev pub not_allowed_fault : List AdapterSaid → List ObjectTable → Option Fault
not_allowed_fault adapters objects =
    entry_key_fault (codes "object") (codes "priority") PriorityNotAllowed (position (is_too_many adapters) objects)
