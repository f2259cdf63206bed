-- Which adapters may have a transform: own profile.
use Rattle.std.specs.Prelude.{◌==◌, ◌&&◌, Bool, not, List, Option, length, position, codes}
use Rattle.config_tables.specs.Fault.{Fault}
use Rattle.config_tables.specs.declared.fault.ConfigCause.TheVariants.{TransformNotAllowed}
use Rattle.adapter_policies.specs.Found.{entry_key_fault}
use Rattle.adapter_policies.specs.NameRelations.{propagates}
use Rattle.adapter_policies.specs.Tables.{AdapterSaid}
use Rattle.adapter_policies.specs.declared.inbound.InboundTable.{InboundTable}

-- a transform has a row; a configuration can't say one without rows
abbrev pub has_rows : List InboundTable → Bool
has_rows rows = not (length rows == 0)

-- whether an adapter has a transform, and doesn't let the client's priority stand
abbrev pub has_idle_transform : AdapterSaid → Bool
has_idle_transform a = not (propagates a.model) && has_rows a.inbound

-- an adapter has a transform only where it lets the client's priority stand
abbrev pub transform_not_allowed_fault : List AdapterSaid → Option Fault
transform_not_allowed_fault adapters =
    entry_key_fault (codes "adapter") (codes "inbound") TransformNotAllowed (position has_idle_transform adapters)
