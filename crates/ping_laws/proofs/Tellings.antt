-- The servant of the built-in interface tells priorities.
use Rattle.std.proofs.Common.{◌≡◌, ℕ, List, [], ◌∷◌, length, refl, sym, ap, ◌∙◌, subst, false, suc, ◌≤◌, arith, lit<}
use Rattle.std.specs.Int.{w16}
use Rattle.std.specs.List.{AllByRecursion}
use Rattle.orb_base.specs.JobRecord.{JobRecord}
use Rattle.orb_base.specs.Outcomes.{bad_operation, body_len}
use Rattle.orb_base.specs.declared.limits.TheConstants.{MAX_BODY}
use Rattle.orb_base.specs.declared.outcome.Outcome.{Outcome}
use Rattle.cdr_core.proofs.CallerLemmas.{length-number_bytes}
use Rattle.giop_frames.specs.Messages.{Message}
use Rattle.adapter_policies.specs.BuiltIn.{built_in}
use Rattle.adapter_policies.specs.SetupData.{SetupData}
use Rattle.dynamic_servants.specs.Outcome.{outcome_of}
use Rattle.dynamic_servants.proofs.Current.{current_told}
use Rattle.ping_laws.specs.declared.place.Place.{Place}
use Rattle.ping_laws.specs.Built.{IsPing, Spares}
use Rattle.ping_laws.specs.PingRun.{ping_job, offers, outcome_at}
use Rattle.ping_laws.specs.Telling.{IsTold, TellPriorities, BuiltInTells}
use Rattle.ping_laws.proofs.HearingLaws.{jobs_of, no_jobs, more_jobs_of}
use Rattle.ping_laws.proofs.Places.{pings_place}

pub built_in_tells : BuiltInTells
built_in_tells s served key place is serial size id order =
    subst (λ (p : Place). IsTold built_in (outcome_of s) (ping_job serial order size id p.target p.level)) (sym (pings_place key place is).place_is)
    (current_told s served (ping_job serial order size id 0 100) refl (lit< tt))

-- ---- the jobs of such requests

-- each job of such messages is given its priority
pub jobs_told : (setup : SetupData) (outcome : List ℕ → JobRecord → Outcome) → TellPriorities setup outcome
    → (n : ℕ) (ms : List Message) (no_lanes : setup.pool.laned ≡ false) (all : AllByRecursion (IsPing setup) ms)
    → AllByRecursion (IsTold setup outcome) (jobs_of setup n ms no_lanes all).0
jobs_told setup outcome tells n [] no_lanes all = subst (AllByRecursion (IsTold setup outcome)) (sym (no_jobs setup n no_lanes all)) tt
jobs_told setup outcome tells n (m ∷ ms) no_lanes (ping, all) =
    subst (AllByRecursion (IsTold setup outcome)) (sym (more_jobs_of setup n m ms no_lanes ping all)) (
      tells ping.asked.key ping.place ping.asked.placed n (length m.bytes) ping.r.id m.order,
      jobs_told setup outcome tells (suc n) ms no_lanes all,
    )

-- such an outcome is a body of two bytes
told_len : (setup : SetupData) (outcome : List ℕ → JobRecord → Outcome) (job : JobRecord) → IsTold setup outcome job → body_len (outcome_at setup outcome job) ≡ 2
told_len setup outcome job told = ap body_len told ∙ length-number_bytes job.order w16 job.priority

pub told_short : (setup : SetupData) (outcome : List ℕ → JobRecord → Outcome) (jobs : List JobRecord) → AllByRecursion (IsTold setup outcome) jobs
    → AllByRecursion (λ job. body_len (outcome_at setup outcome job) ≤ MAX_BODY) jobs
told_short setup outcome [] told = tt
told_short setup outcome (job ∷ jobs) (first, others) = (omega (arith, told_len setup outcome job first), told_short setup outcome jobs others)

-- and is not BAD_OPERATION
no_bad : (setup : SetupData) (outcome : List ℕ → JobRecord → Outcome) (job : JobRecord) → IsTold setup outcome job → outcome_at setup outcome job ≡ bad_operation → ⊥
no_bad setup outcome job told bad = let both = sym told ∙ bad in cc

pub told_spares : (setup : SetupData) (outcome : List ℕ → JobRecord → Outcome) (lacks : List ℕ) (jobs : List JobRecord) → AllByRecursion (IsTold setup outcome) jobs
    → Spares setup outcome lacks (offers jobs)
told_spares setup outcome lacks [] told = tt
told_spares setup outcome lacks (job ∷ jobs) (first, others) = ((λ bad. absurd (no_bad setup outcome job first bad)), told_spares setup outcome lacks jobs others)
