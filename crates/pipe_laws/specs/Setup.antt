-- The interfaces of a setup, and the connection of the pipe.
use Rattle.std.specs.Prelude.{ℕ, List, [], Option, None, Some, slice_get}
use Rattle.orb_base.specs.declared.conn_id.ConnId.{ConnId}
use Rattle.adapter_policies.specs.SetupData.{SetupData}
use Rattle.adapter_policies.specs.declared.object_spec.ObjectSpec.{ObjectSpec}

-- the interface of an object, by its number
abbrev pub interface_at : Option ObjectSpec → List ℕ
interface_at (Some object) = object.interface
interface_at None = []

-- the interface of the object of this number
abbrev pub interface_of : SetupData → ℕ → List ℕ
interface_of setup target = interface_at (slice_get setup.objects target)

-- the connection of the pipe
abbrev pub pipe_conn : ConnId
pipe_conn = record { slot = 0; nth = 0 }
