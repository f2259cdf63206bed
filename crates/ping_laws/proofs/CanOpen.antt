-- The setups that the pipe runs may open, and open with one free thread.
use Rattle.std.proofs.Common.{◌≡◌, ℕ, Bool, List, [], ◌∷◌, refl, sym, ap, subst, lit≤}
use Rattle.orb_base.specs.Pool.{Pool, IsWellFormed, HasSlots}
use Rattle.orb_base.specs.declared.lane_spec.LaneSpec.{LaneSpec}
use Rattle.thread_borrowing.specs.declared.doing.Doing.TheVariants.{Free}
use Rattle.lane_machine.specs.State.{State, CanOpen, opening}
use Rattle.adapter_policies.specs.BuiltIn.{built_in}
use Rattle.adapter_policies.specs.SetupData.{SetupData}
use Rattle.ping_laws.specs.Setup.{HasOneThread, IsSingle, IsRunnable, opened}
use Rattle.ping_laws.specs.PingRun.{Does, first_level, single_pool}

lane_at : ℕ → ℕ → ℕ → List LaneSpec
lane_at level statics dynamics = record { priority = level; statics = statics; dynamics = dynamics } ∷ []

lanes_are : (lanes : List LaneSpec) → HasOneThread lanes → lanes ≡ record { priority = first_level lanes; statics = 1; dynamics = 0 } ∷ []
unfolding lane_at
lanes_are [] h = absurd h
lanes_are (lane ∷ []) h = λ i. lane_at lane.priority (h.0 i) (h.1 i)
lanes_are (lane ∷ other ∷ rest) h = absurd h

abbrev pool_with : Pool → Bool → List LaneSpec → Bool → Bool → Pool
pool_with pool laned lanes borrowing buffering = record pool { laned = laned; lanes = lanes; borrowing = borrowing; buffering = buffering }

single_is : (pool : Pool) → IsSingle pool → pool ≡ single_pool pool
single_is pool single =
    let lanes = lanes_are pool.lanes single.one_thread in
    λ i. pool_with pool (single.no_lanes i) (lanes i) (single.no_borrowing i) (single.no_buffering i)

pub opens_free : (setup : SetupData) → IsRunnable setup → Does Free (opened setup)
opens_free setup able = ap (λ (p : Pool). opening p setup.slots setup.per_slot) (single_is setup.pool able.single)

pub built_in_is_runnable : IsRunnable built_in
built_in_is_runnable = record {
  single = record { no_lanes = refl; no_borrowing = refl; no_buffering = refl; one_thread = (refl, refl) };
  slots = record { some_slot = lit≤ tt; few_slots = lit≤ tt; some_connection = lit≤ tt; few_connections = lit≤ tt };
}
