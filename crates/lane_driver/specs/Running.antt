-- The whole run of a connection's calls, as the pipe has it. Own profile.
use Rattle.std.specs.Prelude.{◌≡◌, ◌++◌, ℕ, List}
use Rattle.orb_base.specs.JobRecord.{JobRecord}
use Rattle.orb_base.specs.declared.outcome.Outcome.{Outcome}
use Rattle.lane_machine.specs.declared.call.How.{How}
use Rattle.lane_machine.specs.declared.call.LaneCall.{LaneCall}
use Rattle.lane_machine.specs.State.{State, CanOpen, opening}
use Rattle.lane_machine.specs.Histories.{History}
use Rattle.adapter_policies.specs.SetupData.{SetupData}
use Rattle.pipe_laws.specs.Setup.{pipe_conn}
use Rattle.pipe_laws.specs.Piped.{settled, closed_by, piped}
use Rattle.pipe_laws.specs.Legality.{AreHeardCalls}
use Rattle.pipe_laws.specs.Lacking.{served, Lacking}
use Rattle.pipe_laws.specs.Serials.{RisesFrom}
use Rattle.lane_driver.specs.Driving.{Doer, run_at, Does, Began}
use Rattle.lane_driver.specs.Feeding.{feeding}

-- the calls in their groups, the end of the last group, and the end of the connection
abbrev pub running : ℕ → List LaneCall → How → Doer
running batch calls how servant run = closed_by servant how (settled servant (feeding batch batch calls servant run))

-- what was done from the opening of a setup on is the run of the pipe, where memory was wanting for the serials that its
-- answers tell
abbrev pub RunsArePiped : Type 0
RunsArePiped = (setup : SetupData) (outcome : List ℕ → JobRecord → Outcome) (batch : ℕ) (calls : List LaneCall) (how : How)
    (s : State) (entries : History)
    → Does (running batch calls how) (served setup outcome) (opening setup.pool setup.slots setup.per_slot) s entries
    → (lacking : Lacking setup outcome entries) → piped setup outcome batch calls how lacking.lacks ≡ run_at s entries

-- and what was begun so is a prefix of its history
abbrev pub BeginningsArePiped : Type 0
BeginningsArePiped = (setup : SetupData) (outcome : List ℕ → JobRecord → Outcome) (batch : ℕ) (calls : List LaneCall) (how : How)
    (entries : History)
    → Began (running batch calls how) (served setup outcome) (opening setup.pool setup.slots setup.per_slot) entries
    → (lacking : Lacking setup outcome entries)
    → (more : History) × ((piped setup outcome batch calls how lacking.lacks).history ≡ entries ++ more)

-- where the serials of the requests rise, such serials are there: what was done is the run of the pipe
abbrev pub DoneIsPiped : Type 0
DoneIsPiped = (setup : SetupData) (outcome : List ℕ → JobRecord → Outcome) (batch : ℕ) (calls : List LaneCall) (how : How)
    (n : ℕ) (s : State) (entries : History)
    → CanOpen setup.pool setup.slots setup.per_slot → AreHeardCalls setup.pool pipe_conn calls → RisesFrom n calls
    → Does (running batch calls how) (served setup outcome) (opening setup.pool setup.slots setup.per_slot) s entries
    → (lacking : Lacking setup outcome entries) × (piped setup outcome batch calls how lacking.lacks ≡ run_at s entries)

-- and what was begun is a prefix of its history
abbrev pub BegunIsPiped : Type 0
BegunIsPiped = (setup : SetupData) (outcome : List ℕ → JobRecord → Outcome) (batch : ℕ) (calls : List LaneCall) (how : How)
    (n : ℕ) (entries : History)
    → CanOpen setup.pool setup.slots setup.per_slot → AreHeardCalls setup.pool pipe_conn calls → RisesFrom n calls
    → Began (running batch calls how) (served setup outcome) (opening setup.pool setup.slots setup.per_slot) entries
    → (lacking : Lacking setup outcome entries) × (more : History)
    × ((piped setup outcome batch calls how lacking.lacks).history ≡ entries ++ more)
