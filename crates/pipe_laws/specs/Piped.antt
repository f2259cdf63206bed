-- What the pipe answers: one connection, whose calls are applied in groups. After each group, and after the end, the
-- threads are run to rest and all items are collected; after the end the connection collects once more. Own profile.
use Rattle.std.specs.Prelude.{◌≡◌, ℕ, zero, suc, ◌+◌, ◌-◌, ◌==◌, Bool, true, false, not, if◌then◌else◌, List, [], ◌∷◌, ◌++◌, Option, Some, None, length, count_by}
use Rattle.std.specs.List.{list_any}
use Rattle.orb_base.specs.Outcomes.{no_memory}
use Rattle.orb_base.specs.JobRecord.{JobRecord}
use Rattle.orb_base.specs.declared.conn_id.ConnId.{ConnId}
use Rattle.orb_base.specs.declared.outcome.Outcome.{Outcome}
use Rattle.lane_machine.specs.declared.call.How.{How}
use Rattle.lane_machine.specs.declared.call.How.TheVariants.{Shut}
use Rattle.lane_machine.specs.declared.call.LaneCall.{LaneCall}
use Rattle.lane_machine.specs.declared.call.LaneCall.TheVariants.{Take, Finish, Collect, End}
use Rattle.lane_machine.specs.declared.call.LaneReply.{LaneReply}
use Rattle.lane_machine.specs.declared.call.LaneReply.TheVariants as reply
use Rattle.lane_machine.specs.State.{State, opening}
use Rattle.thread_borrowing.specs.ThreadList.{is_free, first_given as given_in}
use Rattle.lane_machine.specs.Machine.{step, item_place}
use Rattle.lane_machine.specs.Readiness.{is_ready}
use Rattle.lane_machine.specs.Histories.{History, replay}
use Rattle.pipe_laws.specs.Setup.{interface_of, pipe_conn}
use Rattle.adapter_policies.specs.SetupData.{SetupData}
use Rattle.pipe_laws.specs.Said.{said}

-- where a run is: its state, and the history that led to it
pub record Run : Type 0 where
  pub state : State
  pub history : History

-- the run is where its history leads from this state
abbrev pub IsReplayed : State → Run → Type 0
IsReplayed s run = run.state ≡ replay s run.history

-- one more call of the one caller, number 0
abbrev pub applied : Run → LaneCall → Run
applied run call = record {
  state = (step run.state call).0;
  history = run.history ++ record { caller = 0; call = call; reply = (step run.state call).1 } ∷ [];
}

-- the number of the first thread with a task that it hasn't taken yet
abbrev pub first_given : State → Option ℕ
first_given s = given_in s.threads

-- a turn: that thread takes its task, and finishes it with the servant's answer
abbrev pub finished_by : (JobRecord → Outcome) → Run → ℕ → LaneReply → Run
finished_by servant run t (reply.Given job) = applied run (Finish t (record { job = job; outcome = servant job }))
finished_by servant run t _ = run

-- a turn of the thread of this number, if there is one
abbrev pub turned : (JobRecord → Outcome) → Run → Option ℕ → Run
turned servant run (Some t) = finished_by servant (applied run (Take t)) t (step run.state (Take t)).1
turned servant run None = run

-- so many turns, or fewer where no task is given any more
abbrev pub rested_after : (JobRecord → Outcome) → ℕ → Run → Run
rested_after servant zero run = run
rested_after servant (suc turns) run = rested_after servant turns (turned servant run (first_given run.state))

-- turns until no task is given; each finishes one of the requests in hand
abbrev pub in_hand : State → ℕ
in_hand s = length s.waiting + count_by (λ thread. not (is_free thread.doing)) s.threads

-- turns until no task is given
abbrev pub rested : (JobRecord → Outcome) → Run → Run
rested servant run = rested_after servant (in_hand run.state) run

-- the next item of the connection is collected, where there is one
abbrev pub collected : ConnId → Run → Option ℕ → Run
collected conn run (Some _) = applied run (Collect conn)
collected conn run None = run

-- so many items are collected, or fewer where none is left
abbrev pub emptied_after : ConnId → ℕ → Run → Run
emptied_after conn zero run = run
emptied_after conn (suc items) run = emptied_after conn items (collected conn run (item_place run.state conn))

-- all items of the connection are collected
abbrev pub emptied : ConnId → Run → Run
emptied conn run = emptied_after conn (length run.state.out) run

-- the end of a group
abbrev pub settled : (JobRecord → Outcome) → Run → Run
settled servant run = emptied pipe_conn (rested servant run)

-- a group ends before a call that isn't ready, after its `batch`-th call, and after one that was answered Closing;
-- `room` is how many calls more fit into the open group
abbrev pub before_call : (JobRecord → Outcome) → Run → LaneCall → Run
before_call servant run call = if is_ready run.state call then run else settled servant run

-- how many calls more fit into the group after this call
abbrev pub room_behind : ℕ → ℕ → Run → LaneCall → ℕ
room_behind batch room run call = (if is_ready run.state call then room else batch) - 1

-- the group ends after a call for which it had no more room
abbrev pub behind_call : (JobRecord → Outcome) → ℕ → Run → Run
behind_call servant room run = if room == 0 then settled servant run else run

-- the calls in their groups; once the run is closing no further call is made
abbrev pub grouped : (JobRecord → Outcome) → ℕ → ℕ → Run → List LaneCall → Run
grouped servant batch room run [] = settled servant run
grouped servant batch room run (call ∷ calls) =
    let left = room_behind batch room run call in
    if run.state.closing then settled servant run
    else grouped servant batch (if left == 0 then batch else left) (behind_call servant left (applied (before_call servant run call) call)) calls

-- the end of the connection: by closing where that holds
abbrev pub closed_by : (JobRecord → Outcome) → How → Run → Run
closed_by servant how run =
    applied (settled servant (applied run (End pipe_conn (if run.state.closing then Shut else how)))) (Collect pipe_conn)

-- a servant answers the outcome, or NO_MEMORY to the jobs with these serials
abbrev pub answer_of : SetupData → (List ℕ → JobRecord → Outcome) → List ℕ → JobRecord → Outcome
answer_of setup outcome lacks job =
    if list_any (λ serial. serial == job.serial) lacks then no_memory else outcome (interface_of setup job.target) job

-- the run of the pipe
abbrev pub piped : SetupData → (List ℕ → JobRecord → Outcome) → ℕ → List LaneCall → How → List ℕ → Run
piped setup outcome batch calls how lacks =
    let servant = answer_of setup outcome lacks in
    closed_by servant how (grouped servant batch batch (record { state = opening setup.pool setup.slots setup.per_slot; history = [] }) calls)

-- the bytes that it writes
abbrev pub piped_bytes : SetupData → (List ℕ → JobRecord → Outcome) → ℕ → List LaneCall → How → List ℕ → List ℕ
piped_bytes setup outcome batch calls how lacks = said pipe_conn (piped setup outcome batch calls how lacks).history
