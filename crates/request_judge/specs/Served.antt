-- The objects of a setup, as requests see them.
use Rattle.std.specs.Prelude.{ℕ, Bool, false, List, Option, slice_get, is_some}
use Rattle.std.specs.Option.{option_map, option_and_then}
use Rattle.orb_base.specs.declared.priority_model.PriorityModel.{PriorityModel}
use Rattle.priority_models.specs.declared.transform.TransformRow.{TransformRow}
use Rattle.giop_messages.specs.Message.{Target, key, profile, addressing}
use Rattle.adapter_policies.specs.Index.{number_from}
use Rattle.adapter_policies.specs.SetupData.{AdapterData, SetupData}
use Rattle.adapter_policies.specs.declared.object_spec.ObjectSpec.{ObjectSpec}

-- an object that an adapter serves, as requests see it: its number, its adapter's model, the server's priority for it, and the rows
-- of its adapter's transform
pub record Served : Type 0 where
  pub number : ℕ
  pub model : PriorityModel
  pub priority : ℕ
  pub inbound : List TransformRow

-- the object of this number under its adapter
abbrev pub served_by : ℕ → ObjectSpec → AdapterData → Served
served_by number object adapter = record { number = number; model = adapter.model; priority = object.priority; inbound = adapter.inbound }

-- the same, where its adapter is there
abbrev pub served_as : SetupData → ℕ → ObjectSpec → Option Served
served_as setup number object = option_map (served_by number object) (slice_get setup.adapters object.adapter)

-- the object of this number, where there is one and its adapter is there
abbrev pub served_of : SetupData → ℕ → Option Served
served_of setup number = option_and_then (served_as setup number) (slice_get setup.objects number)

-- the first object of a key, where there is one and its adapter is there
abbrev pub served_at : SetupData → List ℕ → Option Served
served_at setup object_key = option_and_then (served_of setup) (number_from 0 setup.objects object_key)

-- the target is the key of an object that an adapter serves
abbrev pub is_here : SetupData → Target → Bool
is_here setup (key object_key) = is_some (served_at setup object_key)
is_here setup (profile _) = false
is_here setup (addressing _ _ _) = false
