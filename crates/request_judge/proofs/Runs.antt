-- Where a request runs, by its mandated priority.
use Rattle.std.proofs.Common.{◌≡◌, ℕ, Option, Some, None, Ok, Err, refl, sym, subst}
use Rattle.orb_base.specs.Priorities.{lane_of}
use Rattle.orb_base.specs.Span.{Span}
use Rattle.adapter_policies.specs.SetupData.{SetupData}
use Rattle.request_judge.specs.Judging.{RunsAt, RunsIn}
use Rattle.request_judge.specs.Served.{Served}
use Rattle.request_judge.specs.declared.refusal.Refusal.{Refusal}
use Rattle.request_judge.specs.declared.refusal.Refusal.TheVariants.{NoTransform}
use Rattle.request_judge.specs.declared.verdict.Place.{Place}

pub runs_there : (setup : SetupData) (band : Option Span) (served : Served) (m : Option ℕ) (place : Place) → m ≡ Some place.priority
    → place.target ≡ served.number → RunsIn setup band place.priority (Ok place.lane) → RunsAt setup band served m (Ok place)
runs_there setup band served m place is target runs = rw is (target, refl, runs)

pub refused_there : (setup : SetupData) (band : Option Span) (served : Served) (m : Option ℕ) (p : ℕ) (refusal : Refusal) → m ≡ Some p
    → RunsIn setup band p (Err refusal) → RunsAt setup band served m (Err refusal)
refused_there setup band served m p refusal is runs = rw is runs

pub without_priority : (setup : SetupData) (band : Option Span) (served : Served) (m : Option ℕ) → m ≡ None → RunsAt setup band served m (Err NoTransform)
without_priority setup band served m is = rw is refl

-- the lane of a place is that of its priority
pub ran_in : (setup : SetupData) (band : Option Span) (served : Served) (m : Option ℕ) (place : Place) → RunsAt setup band served m (Ok place)
    → lane_of setup.pool place.priority ≡ Some place.lane
ran_in setup band served (Some p) place runs = subst (λ (q : ℕ). lane_of setup.pool q ≡ Some place.lane) (sym runs.1) runs.2.2
ran_in setup band served None place runs = absurd (cc)
