-- Which objects of a setup no servant serves: own profile.
use Rattle.std.specs.Prelude.{Bool, not, Option, is_some, codes}
use Rattle.std.specs.List.{position_from}
use Rattle.config_tables.specs.Fault.{Fault}
use Rattle.config_tables.specs.declared.fault.ConfigCause.TheVariants.{UnknownInterface}
use Rattle.adapter_policies.specs.Found.{entry_key_fault}
use Rattle.adapter_policies.specs.SetupData.{SetupData}
use Rattle.adapter_policies.specs.declared.object_spec.ObjectSpec.{ObjectSpec}
use Rattle.dynamic_servants.specs.Outcome.{Served, target_of}

-- there is no servant of an object's interface
unfoldable pub is_unserved : Served → ObjectSpec → Bool
is_unserved served o = not (is_some (target_of served o.interface))

-- the first object that no servant serves, as a fault at its interface
abbrev pub unserved_fault : Served → SetupData → Option Fault
unserved_fault served setup =
    entry_key_fault (codes "object") (codes "interface") UnknownInterface (position_from (is_unserved served) 0 setup.objects)
