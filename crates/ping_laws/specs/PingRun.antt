-- The states of the lane machine in which the pipe's requests run, one after another.
use Rattle.std.specs.Prelude.{◌≡◌, ◌≤◌, ◌⊎◌, ℕ, suc, ◌+◌, Bool, true, false, List, [], ◌∷◌, ◌++◌, Option, Some, None, Result, Ok, Err}
use Rattle.orb_base.specs.Outcomes.{no_memory, bad_operation, body_len}
use Rattle.orb_base.specs.Outside.{SinkState, Rose}
use Rattle.orb_base.specs.declared.limits.TheConstants.{MAX_BODY}
use Rattle.orb_base.specs.declared.answer.Answer.{Answer}
use Rattle.orb_base.specs.JobRecord.{JobRecord}
use Rattle.orb_base.specs.declared.order.Order.{Order}
use Rattle.orb_base.specs.declared.order.Order.TheVariants.{Big}
use Rattle.orb_base.specs.declared.outcome.Outcome.{Outcome}
use Rattle.orb_base.specs.declared.item.Item.TheVariants.{Answered}
use Rattle.giop_messages.specs.Message.{close}
use Rattle.giop_messages.specs.Spelling.{spelled}
use Rattle.lane_machine.specs.declared.call.LaneCall.{LaneCall}
use Rattle.lane_machine.specs.declared.call.LaneCall.TheVariants.{Offer}
use Rattle.thread_borrowing.specs.declared.doing.Doing.{Doing}
use Rattle.thread_borrowing.specs.declared.doing.Doing.TheVariants.{Free, Given}
use Rattle.lane_machine.specs.State.{State, opening}
use Rattle.lane_machine.specs.Machine.{is_over}
use Rattle.orb_base.specs.Pool.{Pool}
use Rattle.orb_base.specs.declared.lane_spec.LaneSpec.{LaneSpec}
use Rattle.pipe_laws.specs.Setup.{interface_of, pipe_conn}
use Rattle.adapter_policies.specs.SetupData.{SetupData}
use Rattle.ping_laws.specs.Ping.{ping_request}
use Rattle.ping_laws.specs.Heard.{job_of}
use Rattle.item_writer.specs.ItemBytes.{item_bytes}
use Rattle.text_streams.specs.Streams.{WroteText, WroteSome}

-- the request of so many bytes for `current` of the object of a number, at a priority, as the call of this number of the pipe's
-- connection; a job doesn't say the key
abbrev pub ping_job : ℕ → Order → ℕ → ℕ → ℕ → ℕ → JobRecord
ping_job serial order size id target level = job_of pipe_conn serial order size (ping_request id []) target level 0

-- the job is one of these
abbrev pub IsPingJob : JobRecord → Type 0
IsPingJob job = job ≡ ping_job job.serial job.order job.size job.id job.target job.priority

-- what servants with these outcomes answer to a job, by the interface of its object
abbrev pub outcome_at : SetupData → (List ℕ → JobRecord → Outcome) → JobRecord → Outcome
outcome_at setup outcome job = outcome (interface_of setup job.target) job

-- the jobs are such, the first of them the call of this number
abbrev pub ArePingJobs : ℕ → List JobRecord → Type 0
ArePingJobs serial [] = Unit {0}
ArePingJobs serial (job ∷ jobs) = IsPingJob job × (job.serial ≡ serial) × ArePingJobs (suc serial) jobs

-- the calls that offer jobs
abbrev pub offers : List JobRecord → List LaneCall
offers [] = []
offers (job ∷ jobs) = Offer job ∷ offers jobs

-- the priority of the first of some lanes
abbrev pub first_level : List LaneSpec → ℕ
first_level [] = 0
first_level (lane ∷ _) = lane.priority

-- a pool of one static thread, with the priority and the limits of this one
abbrev pub single_pool : Pool → Pool
single_pool pool = record pool {
  laned = false;
  lanes = record { priority = first_level pool.lanes; statics = 1; dynamics = 0 } ∷ [];
  borrowing = false;
  buffering = false;
}

-- a machine with such a pool and the slots of this one, whose one thread does this, after so many calls and bytes
abbrev pub with_thread : State → Doing → ℕ → ℕ → State
with_thread s doing calls bytes = record (opening (single_pool s.pool) s.slots s.per_slot) {
  threads = record { lane = 0; is_static = true; started = true; doing = doing } ∷ [];
  calls = calls;
  bytes = bytes;
}

-- the machine is such a one, and its thread does this
abbrev pub Does : Doing → State → Type 0
Does doing s = s ≡ with_thread s doing s.calls s.bytes

-- its thread is free, and nothing is owed; a limit of the run may have been met
abbrev pub IsSettled : State → Type 0
IsSettled s = s ≡ record (with_thread s Free s.calls s.bytes) { closing = s.closing }

-- an answer is the outcome, or NO_MEMORY when out of memory; never so where the outcome is BAD_OPERATION, which takes none
abbrev pub IsAnswered : Outcome → Outcome → Type 0
IsAnswered answer outcome = (answer ≡ outcome) ⊎ ((answer ≡ no_memory) × ¬ (outcome ≡ bad_operation))

-- a job was carried out, and these bytes are its reply
pub record Ran (outcome : JobRecord → Outcome) (job : JobRecord) (s s' : State) (bytes : List ℕ) : Type 0 where
  pub answer : Outcome
  pub came : IsAnswered answer (outcome job)
  pub short : body_len answer ≤ MAX_BODY
  pub admitted : is_over s job.size ≡ false
  pub moved : s' ≡ with_thread s Free (s.calls + 1) (s.bytes + job.size + body_len answer)
  pub reply : bytes ≡ item_bytes (Answered (record { job = job; outcome = answer }))

-- a limit of the run was met at a job, and nothing is written for it
pub record Refused (job : JobRecord) (s s' : State) (bytes : List ℕ) : Type 0 where
  pub over : is_over s job.size ≡ true
  pub moved : s' ≡ record s { closing = true }
  pub silent : bytes ≡ []

-- jobs were carried out one after another, up to a limit of the run; the bytes are their replies
abbrev pub Runs : (JobRecord → Outcome) → List JobRecord → State → State → List ℕ → Type 0
Runs outcome [] s s' bytes = (s' ≡ s) × (bytes ≡ [])
Runs outcome (job ∷ jobs) s s' bytes =
    Refused job s s' bytes
    ⊎ ((mid : State) × (first : List ℕ) × (rest : List ℕ) × Ran outcome job s mid first × Runs outcome jobs mid s' rest × (bytes ≡ first ++ rest))

-- what closes a connection after a limit of the run
abbrev pub farewell : Bool → List ℕ
farewell true = spelled Big close
farewell false = []

-- the output is what such a run of these jobs from a state writes
pub record IsRun (start : State) (outcome : JobRecord → Outcome) (jobs : List JobRecord) (closing : Bool) (output : List ℕ) : Type 0 where
  pub behind : State
  pub replies : List ℕ
  pub runs : Runs outcome jobs start behind replies
  pub closes : behind.closing ≡ closing
  pub ends : output ≡ replies ++ farewell closing
