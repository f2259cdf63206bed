-- What a driver of the lane machine did: the entries that it added to the history, whatever run led to the state at which it
-- began. Own profile.
use Rattle.std.specs.Prelude.{◌≡◌, true, ℕ, List, [], ◌∷◌, ◌++◌, Option, option_map, Result, Ok, Err}
use Rattle.orb_base.specs.Outside.{SinkState, Rose}
use Rattle.orb_base.specs.JobRecord.{JobRecord}
use Rattle.orb_base.specs.declared.outcome.Outcome.{Outcome}
use Rattle.turn_cell.specs.declared.entry.Entry.{Entry}
use Rattle.lane_machine.specs.declared.call.LaneCall.{LaneCall}
use Rattle.lane_machine.specs.declared.call.LaneReply.{LaneReply}
use Rattle.lane_machine.specs.State.{State}
use Rattle.lane_machine.specs.Machine.{step}
use Rattle.lane_machine.specs.Histories.{History, replay, IsLegal}
use Rattle.lane_machine.specs.Readiness.{is_ready, IsSound}
use Rattle.text_streams.specs.Streams.{WroteText, WroteFrontOf}
use Rattle.pipe_laws.specs.Setup.{pipe_conn}
use Rattle.pipe_laws.specs.Said.{said}
use Rattle.pipe_laws.specs.Piped.{Run}
use Rattle.pipe_laws.specs.Reached.{IsReached}
use Rattle.pipe_laws.specs.Calm.{NoneBusy}
use Rattle.pipe_laws.specs.Lacking.{Agrees, HasAnswers}
use Rattle.pipe_laws.specs.Begun.{IsFront}
use Rattle.lane_driver.specs.declared.course.Course.{Course}
use Rattle.lane_driver.specs.declared.course.Course.TheVariants.{Whole, Stopped}

-- what is answered to each request
abbrev pub Servant : Type 0
Servant = JobRecord → Outcome

-- what is done from a run on, by such a servant
abbrev pub Doer : Type 0
Doer = Servant → Run → Run

-- a run that is in this state, after this history
abbrev pub run_at : State → History → Run
run_at s h = record { state = s; history = h }

-- an entry of the one caller, number 0
abbrev pub entry : LaneCall → LaneReply → Entry State LaneCall LaneReply
entry call reply = record { caller = 0; call = call; reply = reply }

-- the entries are legal from this state, and lead to that one
pub record Leads (s s' : State) (entries : History) : Type 0 where
  pub legal : IsLegal s entries
  pub leads : s' ≡ replay s entries

-- whatever front of the entries a servant gives, its run begins so
abbrev pub Begins : Doer → State → History → Type 0
Begins does s entries = (servant : Servant) (front : History) → IsFront front entries → Agrees servant front → (h : History)
    → (more : History) × ((does servant (run_at s h)).history ≡ (h ++ front) ++ more)

-- after these entries as much is left to be done as was before
pub record Goes (does : Doer) (outcome : Servant) (s s' : State) (entries : History) : Type 0 where
  pub leads : Leads s s' entries
  pub answers : HasAnswers outcome entries
  pub goes : (servant : Servant) → Agrees servant entries → (h : History)
      → does servant (run_at s h) ≡ does servant (run_at s' (h ++ entries))
  pub begins : Begins does s entries

-- with these entries it is done
pub record Does (does : Doer) (outcome : Servant) (s s' : State) (entries : History) : Type 0 where
  pub leads : Leads s s' entries
  pub answers : HasAnswers outcome entries
  pub done : (servant : Servant) → Agrees servant entries → (h : History) → does servant (run_at s h) ≡ run_at s' (h ++ entries)
  pub begins : Begins does s entries

-- with these entries it is begun
pub record Began (does : Doer) (outcome : Servant) (s : State) (entries : History) : Type 0 where
  pub legal : IsLegal s entries
  pub answers : HasAnswers outcome entries
  pub begins : Begins does s entries

-- a history grew, where one is kept
abbrev pub Logged : History → Option History → Option History → Type 0
Logged entries log log' = log' ≡ option_map (λ h. h ++ entries) log

-- it was done, and all that it says was written
pub record Did (does : Doer) (outcome : Servant) (s s' : State) (log log' : Option History) (out out' : SinkState) : Type 0 where
  pub entries : History
  pub does_so : Does does outcome s s' entries
  pub logged : Logged entries log log'
  pub wrote : WroteText (said pipe_conn entries) out out'

-- it was begun, a prefix of what that says was written, and no write failed
pub record BeganWriting (does : Doer) (outcome : Servant) (s : State) (out out' : SinkState) : Type 0 where
  pub entries : History
  pub begins : Began does outcome s entries
  pub wrote : WroteFrontOf (said pipe_conn entries) out out'
  pub faults : out'.faults ≡ out.faults

-- all that these entries say was written, but that of what the last one says only a prefix was
pub record WroteUpToLast (entries : History) (out out' : SinkState) : Type 0 where
  pub before : History
  pub last : Entry State LaneCall LaneReply
  pub front : List ℕ
  pub rest : List ℕ
  pub ends : entries ≡ before ++ (last ∷ [])
  pub parts : said pipe_conn (last ∷ []) ≡ front ++ rest
  pub wrote : WroteText (said pipe_conn before ++ front) out out'

-- it was begun, up to the call by which a write failed
pub record StoppedWriting (does : Doer) (outcome : Servant) (s : State) (log log' : Option History) (out out' : SinkState) : Type 0 where
  pub entries : History
  pub begins : Began does outcome s entries
  pub logged : Logged entries log log'
  pub wrote : WroteUpToLast entries out out'

-- what was done, by how it came out: all of it, what is before a failed write, or a prefix when out of memory
abbrev pub Drives : {E : Type 0} → Result Course E → Doer → Servant → State → State → Option History → Option History
    → SinkState → SinkState → Type 0
Drives (Ok Whole) does outcome s s' log log' out out' = Did does outcome s s' log log' out out' × (out'.faults ≡ out.faults)
Drives (Ok Stopped) does outcome s s' log log' out out' = StoppedWriting does outcome s log log' out out' × Rose out.faults out'.faults
Drives (Err _) does outcome s s' log log' out out' = BeganWriting does outcome s out out'

-- one call was applied
pub record IsApplied (s : State) (call : LaneCall) (s' : State) (log log' : Option History) (r : LaneReply) : Type 0 where
  pub ready : is_ready s call ≡ true
  pub sound : IsSound s call
  pub state : s' ≡ (step s call).0
  pub reply : r ≡ (step s call).1
  pub logged : Logged (entry call r ∷ []) log log'

-- the state is that of a run, between two turns
pub record IsBetween (s : State) : Type 0 where
  pub reached : IsReached s
  pub calm : NoneBusy s.threads

-- it is so again, and neither the pool nor the ended connections have changed
pub record Stays (s s' : State) : Type 0 where
  pub between : IsBetween s'
  pub pool : s'.pool ≡ s.pool
  pub ended : s'.ended ≡ s.ended

-- it stays so, where all was done
abbrev pub StaysWhole : {E : Type 0} → Result Course E → State → State → Type 0
StaysWhole (Ok Whole) s s' = Stays s s'
StaysWhole (Ok Stopped) s s' = Unit {0}
StaysWhole (Err _) s s' = Unit {0}
