-- A setup opens in a state between two turns.
use Rattle.std.proofs.Common.{◌≡◌, ℕ, [], refl, sym, subst}
use Rattle.orb_base.specs.Pool.{Pool, IsWellFormed, HasSlots}
use Rattle.lane_machine.specs.State.{State, CanOpen, Opens, opening}
use Rattle.pipe_laws.proofs.Standing.{stands_first, reached}
use Rattle.lane_driver.specs.Driving.{IsBetween}

pub can_open : (pool : Pool) (slots per_slot : ℕ) → IsWellFormed pool → HasSlots slots per_slot → CanOpen pool slots per_slot
can_open pool slots per_slot formed has = record { well_formed = formed; slots = has }

pub opened_between : (pool : Pool) (slots per_slot : ℕ) (s : State) → IsWellFormed pool → HasSlots slots per_slot → s ≡ opening pool slots per_slot → IsBetween s
opened_between pool slots per_slot s formed has is =
    let first = opening pool slots per_slot in
    let opens : Opens first = record { can = can_open pool slots per_slot formed has; fresh = refl } in
    let stands = stands_first first opens in
    let between : IsBetween first = record { reached = reached first [] (record { state = first; history = [] }) opens stands; calm = stands.calm } in
    subst IsBetween (sym is) between
