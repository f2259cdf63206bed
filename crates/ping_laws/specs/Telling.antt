-- Servants that answer requests for `current` by the priority at which they run.
use Rattle.std.specs.Prelude.{◌≡◌, ℕ, List, Some}
use Rattle.std.specs.Int.{w16}
use Rattle.orb_base.specs.JobRecord.{JobRecord}
use Rattle.orb_base.specs.declared.order.Order.{Order}
use Rattle.orb_base.specs.declared.outcome.Outcome.{Outcome}
use Rattle.orb_base.specs.declared.outcome.Outcome.TheVariants.{Returned}
use Rattle.cdr_core.specs.Field.{number_bytes}
use Rattle.adapter_policies.specs.BuiltIn.{built_in}
use Rattle.adapter_policies.specs.SetupData.{SetupData}
use Rattle.dynamic_servants.specs.Outcome.{Served, outcome_of}
use Rattle.dynamic_servants.specs.PingLaw.{ServesPing}
use Rattle.ping_laws.specs.declared.place.Place.{Place}
use Rattle.ping_laws.specs.PingRun.{ping_job, outcome_at}
use Rattle.ping_laws.specs.Setup.{place_of}

-- the job is answered by its priority, as a short in its byte order
abbrev pub IsTold : SetupData → (List ℕ → JobRecord → Outcome) → JobRecord → Type 0
IsTold setup outcome job = outcome_at setup outcome job ≡ Returned (number_bytes job.order w16 job.priority)

-- wherever a request for `current` runs over a setup, these servants answer it by its priority
abbrev pub TellPriorities : SetupData → (List ℕ → JobRecord → Outcome) → Type 0
TellPriorities setup outcome = (key : List ℕ) (place : Place) → place_of setup key ≡ Some place
    → (serial size id : ℕ) (order : Order) → IsTold setup outcome (ping_job serial order size id place.target place.level)

-- servants of the built-in interface do so over the built-in setup
abbrev pub BuiltInTells : Type 0
BuiltInTells = (s : Served) → ServesPing s → TellPriorities built_in (outcome_of s)
