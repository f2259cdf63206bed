-- The serial numbers of the requests that were answered when out of memory: what a run of the pipe did tells them. Own profile.
use Rattle.std.specs.Prelude.{◌≡◌, ◌==◌, ◌⊎◌, ℕ, false, List, [], ◌∷◌}
use Rattle.std.specs.List.{list_any}
use Rattle.orb_base.specs.JobRecord.{JobRecord}
use Rattle.orb_base.specs.Outcomes.{no_memory, bad_operation}
use Rattle.orb_base.specs.declared.outcome.Outcome.{Outcome}
use Rattle.lane_machine.specs.declared.call.LaneCall.{LaneCall}
use Rattle.lane_machine.specs.declared.call.LaneCall.TheVariants.{Finish}
use Rattle.lane_machine.specs.Histories.{History}
use Rattle.adapter_policies.specs.SetupData.{SetupData}
use Rattle.pipe_laws.specs.Setup.{interface_of}
use Rattle.pipe_laws.specs.Piped.{answer_of}

-- the servant gives the answer of this call, if it is one that answers
abbrev pub agrees_at : (JobRecord → Outcome) → LaneCall → Type 0
agrees_at servant (Finish _ answer) = servant answer.job ≡ answer.outcome
agrees_at servant _ = Unit {0}

-- the servant gives each answer of these entries
abbrev pub Agrees : (JobRecord → Outcome) → History → Type 0
Agrees servant [] = Unit {0}
Agrees servant (e ∷ es) = agrees_at servant e.call × Agrees servant es

-- what came of a job is its outcome, or says out of memory; never so where the outcome is that there is no such operation
abbrev pub CameOf : (JobRecord → Outcome) → JobRecord → Outcome → Type 0
CameOf outcome job came = (came ≡ outcome job) ⊎ ((came ≡ no_memory) × ¬ (outcome job ≡ bad_operation))

-- what is answered came of the job
abbrev pub came_at : (JobRecord → Outcome) → LaneCall → Type 0
came_at outcome (Finish _ answer) = CameOf outcome answer.job answer.outcome
came_at outcome _ = Unit {0}

-- each answer of these entries came of its job
abbrev pub HasAnswers : (JobRecord → Outcome) → History → Type 0
HasAnswers outcome [] = Unit {0}
HasAnswers outcome (e ∷ es) = came_at outcome e.call × HasAnswers outcome es

-- the outcome of a job of the setup
abbrev pub served : SetupData → (List ℕ → JobRecord → Outcome) → JobRecord → Outcome
served setup outcome job = outcome (interface_of setup job.target) job

-- the call finishes no job of this serial
abbrev pub apart_at : ℕ → LaneCall → Type 0
apart_at n (Finish _ answer) = ¬ (answer.job.serial ≡ n)
apart_at n _ = Unit {0}

-- no call of these entries does
abbrev pub Apart : ℕ → History → Type 0
Apart n [] = Unit {0}
Apart n (e ∷ es) = apart_at n e.call × Apart n es

-- what the call finishes is not finished again
abbrev pub once_at : LaneCall → History → Type 0
once_at (Finish _ answer) es = Apart answer.job.serial es
once_at _ es = Unit {0}

-- no serial is finished twice
abbrev pub FinishesOnce : History → Type 0
FinishesOnce [] = Unit {0}
FinishesOnce (e ∷ es) = once_at e.call es × FinishesOnce es

-- the serials for which memory was wanting: only finished ones, and with them the servants of `piped` gave each answer. Each answer
-- came of its job, so that none whose outcome is that there is no such operation says out of memory
pub record Lacking (setup : SetupData) (outcome : List ℕ → JobRecord → Outcome) (h : History) : Type 0 where
  pub lacks : List ℕ
  pub only : (n : ℕ) → Apart n h → list_any (λ serial. serial == n) lacks ≡ false
  pub agrees : Agrees (answer_of setup outcome lacks) h
  pub came : HasAnswers (served setup outcome) h

-- they are there wherever each answer is the outcome or says out of memory, and no serial is finished twice
abbrev pub LacksAreThere : Type 0
LacksAreThere = (setup : SetupData) (outcome : List ℕ → JobRecord → Outcome) (h : History)
    → HasAnswers (served setup outcome) h → FinishesOnce h → Lacking setup outcome h
