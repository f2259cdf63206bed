-- What all slots and all workers of a run begin with, and what they leave: own profile.
use Rattle.std.specs.Prelude.{◌≡◌, ◌≤◌, ℕ, ◌+◌, List, [], ◌∷◌, ◌++◌, length, map}
use Rattle.std.specs.Vec.{vec_capacity}
use Rattle.orb_base.specs.JobRecord.{JobRecord}
use Rattle.orb_base.specs.Links.{AcceptorState}
use Rattle.orb_base.specs.Pool.{IsWellFormed}
use Rattle.orb_base.specs.Outside.{SourceState, SinkState}
use Rattle.orb_base.specs.declared.outcome.Outcome.{Outcome}
use Rattle.turn_cell.specs.Seats.{CellView}
use Rattle.lane_machine.specs.Histories.{History}
use Rattle.lane_machine.specs.State.{State, opening}
use Rattle.lane_machine.specs.declared.call.LaneReply.TheVariants.{Ended}
use Rattle.adapter_policies.specs.SetupData.{SetupData}
use Rattle.lane_pool.specs.Pass.{Pass}
use Rattle.lane_pool.specs.Passes.{IsFresh}
use Rattle.lane_pool.specs.Returned.{IsAlone}
use Rattle.lane_pool.specs.Turns.{Rests, CanTake}
use Rattle.pipe_laws.specs.Lacking.{served}
use Rattle.conn_sides.specs.Working.{Worked, take_entry}
use Rattle.orb_server.specs.Slots.{leaving, ComesOut}
use Rattle.orb_server.specs.Jobs.{PoolJob, PoolDone}
use Rattle.orb_server.specs.declared.job.SlotStart.{SlotStart}
use Rattle.orb_server.specs.declared.staff.Crew.{Crew}

-- the pool was opened by the setup, whose own pool is well formed
pub record IsPoolOf (setup : SetupData) (cell : CellView State) : Type 0 where
  pub opened : cell.terms.opening ≡ opening setup.pool setup.slots setup.per_slot
  pub well_formed : IsWellFormed setup.pool

-- slots' passes by which nothing was called, from this slot on
abbrev pub AreResting : CellView State → ℕ → List Pass → Type 0
AreResting cell slot [] = Unit {0}
AreResting cell slot (p ∷ ps) = (Rests cell p × IsFresh cell (1 + slot) slot p) × AreResting cell (slot + 1) ps

module _ {I O : Type 0} (setup : SetupData) (cell : CellView State) where
  -- a slot's pass by which nothing was called, and room for what its connections leave
  pub record IsStart (slot : ℕ) (start : SlotStart I O) : Type 0 where
    pub rests : Rests cell start.pass
    pub fresh : IsFresh cell (1 + slot) slot start.pass
    pub empty : start.logs.items ≡ []
    pub room : setup.per_slot ≤ vec_capacity start.logs

  -- so begin the slots from this one on
  abbrev pub AreStarts : ℕ → List (SlotStart I O) → Type 0
  AreStarts slot [] = Unit {0}
  AreStarts slot (s ∷ ss) = IsStart slot s × AreStarts (slot + 1) ss

module _ {A I O : Type 0} (setup : SetupData) (cell : CellView State) where
  -- the same with an acceptor beside: a slot's pass by which nothing was called, and room for what its connections leave
  pub record IsJob (slot : ℕ) (job : PoolJob A I O) : Type 0 where
    pub rests : Rests cell job.place
    pub fresh : IsFresh cell (1 + slot) slot job.place
    pub empty : job.logs.items ≡ []
    pub room : setup.per_slot ≤ vec_capacity job.logs

  -- such passes, of the slots from this one on
  abbrev pub AreJobs : ℕ → List (PoolJob A I O) → Type 0
  AreJobs slot [] = Unit {0}
  AreJobs slot (j ∷ js) = IsJob slot j × AreJobs (slot + 1) js

module _ {A I O : Type 0} where
  -- the acceptors of the slots
  abbrev pub acceptors_of : List (PoolJob A I O) → List A
  acceptors_of jobs = map {B = A} (λ (j : PoolJob A I O). j.acceptor) jobs

module _ {A I O : Type 0} (state : A → AcceptorState I O) (source : I → SourceState) (sink : O → SinkState) (setup : SetupData)
    (cell : CellView State) where
  -- a slot served connections on links of its acceptor, and left
  abbrev pub IsDone : ℕ → A → PoolDone A I O → Type 0
  IsDone slot before done =
      ComesOut source sink setup cell (leaving slot) slot (state before) done.place (state done.acceptor) done.logs.items done.end

  -- so did the slots from this one on, each with its acceptor
  abbrev pub AreDone : ℕ → List A → List (PoolDone A I O) → Type 0
  AreDone slot [] [] = Unit {0}
  AreDone slot [] (d ∷ ds) = ⊥
  AreDone slot (a ∷ rest) [] = ⊥
  AreDone slot (a ∷ rest) (d ∷ ds) = IsDone slot a d × AreDone (slot + 1) rest ds

-- a worker's pass by which nothing was called
pub record IsIdle (cell : CellView State) (number who : ℕ) (pass : Pass) : Type 0 where
  pub idle : CanTake cell pass
  pub fresh : IsFresh cell number who pass

-- such passes, of the workers from this one on, where the first worker's seat is `first`
abbrev pub AreIdle : CellView State → ℕ → ℕ → List Pass → Type 0
AreIdle cell first who [] = Unit {0}
AreIdle cell first who (p ∷ ps) = IsIdle cell (first + who) who p × AreIdle cell first (who + 1) ps

-- a worker's entries: its tasks, one after another, each carried out as the servants do, and at last that all has ended
pub record WorkedOff (setup : SetupData) (outcome : List ℕ → JobRecord → Outcome) (number who : ℕ) (entries : History) : Type 0 where
  pub tasks : History
  pub worked : Worked (served setup outcome) number who tasks
  pub parts : entries ≡ tasks ++ (take_entry number who Ended ∷ [])

module _ (setup : SetupData) (outcome : List ℕ → JobRecord → Outcome) (cell : CellView State) where
  -- a worker carried out its tasks, to the end
  pub record HasWorked (number who : ℕ) (pass : Pass) : Type 0 where
    pub alone : IsAlone cell number pass
    pub off : WorkedOff setup outcome number who pass.seat.mine

  -- so did the workers from this one on
  abbrev pub HaveWorked : ℕ → ℕ → List Pass → Type 0
  HaveWorked first who [] = Unit {0}
  HaveWorked first who (p ∷ ps) = HasWorked (first + who) who p × HaveWorked first (who + 1) ps

-- what the threads of a run begin with: workers by which nothing was called, what each slot begins with, and room for what all leave
pub record IsCrew {A I O : Type 0} (setup : SetupData) (cell : CellView State) (crew : Crew A I O) : Type 0 where
  pub workers : AreIdle cell (setup.slots + 1) 0 crew.workers.items
  pub jobs : AreJobs setup cell 0 crew.jobs.items
  pub opened : IsPoolOf setup cell
  pub worked : (crew.worked.items ≡ []) × (length crew.workers.items ≤ vec_capacity crew.worked)
  pub done : (crew.done.items ≡ []) × (length crew.jobs.items ≤ vec_capacity crew.done)
  pub unserved : (crew.unserved.items ≡ []) × (length crew.jobs.items ≤ vec_capacity crew.unserved)
