-- The setup without a configuration, and that of the name service: own profile.
use Rattle.std.specs.Prelude.{ℕ, false, [], ◌∷◌, None, codes}
use Rattle.orb_base.specs.declared.limits.TheConstants.{MAX_RUN_CALLS, MAX_RUN_BYTES}
use Rattle.orb_base.specs.Pool.{Pool}
use Rattle.orb_base.specs.declared.priority_model.PriorityModel.TheVariants.{ClientPropagated}
use Rattle.priority_maps.specs.Linear.{identity}
use Rattle.priority_maps.specs.Maps.{linear}
use Rattle.adapter_policies.specs.declared.setup.TheConstants.{NAMES_SLOTS, NAMES_PER_SLOT}
use Rattle.adapter_policies.specs.SetupData.{AdapterData, SetupData}
use Rattle.adapter_policies.specs.declared.object_spec.ObjectSpec.{ObjectSpec}

-- one static thread without lanes and buffering
abbrev pub built_in_pool : Pool
built_in_pool = record {
  laned = false;
  lanes = record { priority = 100; statics = 1; dynamics = 0 } ∷ [];
  borrowing = false;
  buffering = false;
  max_requests = 0;
  max_bytes = 0;
  run_calls = MAX_RUN_CALLS;
  run_bytes = MAX_RUN_BYTES;
}

-- the adapter `main`, at priority 100, without bands and without a transform
abbrev pub built_in_adapter : AdapterData
built_in_adapter = record { name = codes "main"; model = ClientPropagated; priority = 100; bands = []; inbound = [] }

-- the object `ping`
abbrev pub built_in_object : ObjectSpec
built_in_object = record { key = codes "ping"; adapter = 0; interface = codes "IDL:Orb/Ping:1.0"; priority = 100 }

-- the setup with this one object, and so many slots of so many connections: each priority is its own native one
abbrev pub built_in_with : ObjectSpec → ℕ → ℕ → SetupData
built_in_with object slots per_slot = record {
  idl = None;
  scripts = None;
  mapping = linear identity;
  pool = built_in_pool;
  slots = slots;
  per_slot = per_slot;
  adapters = built_in_adapter ∷ [];
  objects = object ∷ [];
}

-- the setup without a configuration: one slot of 128 connections
abbrev pub built_in : SetupData
built_in = built_in_with built_in_object 1 128

-- the object of the name service
abbrev pub names_object : ObjectSpec
names_object = record { key = codes "NameService"; adapter = 0; interface = codes "IDL:Orb/Names:1.0"; priority = 100 }

-- the setup of the name service
abbrev pub names_setup : SetupData
names_setup = built_in_with names_object NAMES_SLOTS NAMES_PER_SLOT
