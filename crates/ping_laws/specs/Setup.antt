-- What the pipe asks of a setup.
use Rattle.std.specs.Prelude.{◌≡◌, ◌≤◌, ◌*◌, ℕ, false, List, [], ◌∷◌, Option, None, Some, IsSome, slice_get}
use Rattle.std.specs.Option.{option_map, option_and_then}
use Rattle.orb_base.specs.Pool.{Pool, HasSlots}
use Rattle.orb_base.specs.declared.lane_spec.LaneSpec.{LaneSpec}
use Rattle.adapter_policies.specs.Index.{number_from}
use Rattle.adapter_policies.specs.SetupData.{AdapterData, SetupData}
use Rattle.adapter_policies.specs.declared.object_spec.ObjectSpec.{ObjectSpec}
use Rattle.lane_machine.specs.State.{State, opening}
use Rattle.ping_laws.specs.declared.place.Place.{Place}
use Rattle.priority_maps.specs.Maps.{to_native}

-- no two objects have one key
abbrev pub HasDistinctKeys : SetupData → Type 0
HasDistinctKeys setup = (m n : ℕ) (x y : ObjectSpec) → slice_get setup.objects m ≡ Some x → slice_get setup.objects n ≡ Some y
    → x.key ≡ y.key → m ≡ n

-- there is an object of this number
abbrev pub IsKnown : SetupData → ℕ → Type 0
IsKnown setup target = IsSome (slice_get setup.objects target)

-- the priority of an object under an adapter, which has to have a native one: whatever the adapter's model and its transform are, a
-- request that sends no priority runs at the object's
abbrev pub level_under : SetupData → ObjectSpec → AdapterData → Option ℕ
level_under setup object adapter = option_map (λ native. object.priority) (to_native setup.mapping object.priority)

-- the same under the object's own adapter, which has to be there
abbrev pub level_of : SetupData → ObjectSpec → Option ℕ
level_of setup object = option_and_then (level_under setup object) (slice_get setup.adapters object.adapter)

-- where a request runs to the object of this number, which sends no priority
abbrev pub place_at : SetupData → ℕ → ObjectSpec → Option Place
place_at setup target object = option_map (λ level. record { target = target; level = level }) (level_of setup object)

-- where a request runs to the object of a key, which has to be there
abbrev pub place_of : SetupData → List ℕ → Option Place
place_of setup key =
    option_and_then (λ target. option_and_then (place_at setup target) (slice_get setup.objects target)) (number_from 0 setup.objects key)

-- one lane, of one static thread
abbrev pub HasOneThread : List LaneSpec → Type 0
HasOneThread [] = ⊥
HasOneThread (lane ∷ []) = (lane.statics ≡ 1) × (lane.dynamics ≡ 0)
HasOneThread (_ ∷ _ ∷ _) = ⊥

-- a pool of one static thread, without lanes, borrowing and buffering; its priority and the limits of its run are any
pub record IsSingle (pool : Pool) : Type 0 where
  pub no_lanes : pool.laned ≡ false
  pub no_borrowing : pool.borrowing ≡ false
  pub no_buffering : pool.buffering ≡ false
  pub one_thread : HasOneThread pool.lanes

-- a setup of which these laws speak: a pool of one thread, with slots
pub record IsRunnable (setup : SetupData) : Type 0 where
  pub single : IsSingle setup.pool
  pub slots : HasSlots setup.slots setup.per_slot

-- the machine of a setup as it opens
abbrev pub opened : SetupData → State
opened setup = opening setup.pool setup.slots setup.per_slot
