-- Where a request runs: Real-time CORBA 1.2, Priority banded connections and Threadpools.
use Rattle.std.specs.Prelude.{◌≡◌, ◌<◌, ℕ, true, Option, Some, None, Result, Ok, Err, length}
use Rattle.std.specs.Bool.{⊤}
use Rattle.std.specs.List.{HoldsAt}
use Rattle.orb_base.specs.Pool.{Pool}
use Rattle.orb_base.specs.Priorities.{lane_of}
use Rattle.orb_base.specs.Span.{Span, Holds}
use Rattle.priority_models.specs.declared.misplaced.Misplaced.{Misplaced}
use Rattle.priority_models.specs.declared.misplaced.Misplaced.TheVariants.{OutsideBand, NoLane}

-- the priority lies in the bound band, or no band is bound
abbrev pub IsAllowed : Option Span → ℕ → Type 0
IsAllowed None p = ⊤
IsAllowed (Some band) p = Holds band p

-- what becomes of a request of a priority: outside the bound band it is refused as such, else it runs in the lane of its
-- priority, or is refused because there is none
abbrev pub Placed : Pool → Option Span → ℕ → Result ℕ Misplaced → Type 0
Placed pool band p (Ok lane) = IsAllowed band p × (lane_of pool p ≡ Some lane)
Placed pool band p (Err OutsideBand) = IsAllowed band p → ⊥
Placed pool band p (Err NoLane) = IsAllowed band p × (lane_of pool p ≡ None)

-- the lane is one of the pool's, and with lanes it has the priority
pub record IsLaneOf (pool : Pool) (p lane : ℕ) : Type 0 where
  pub inside : lane < length pool.lanes
  pub priority : pool.laned ≡ true → HoldsAt (λ l. l.priority ≡ p) pool.lanes lane
