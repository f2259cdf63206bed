-- One call in its group, the calls of a read, and the end of the connection. Own profile.
use Rattle.std.specs.Prelude.{◌≡◌, ◌≤◌, ℕ, true, List, [], ◌++◌, Option, Result, Ok, Err}
use Rattle.orb_base.specs.Outside.{SinkState, Rose}
use Rattle.lane_machine.specs.declared.call.How.{How}
use Rattle.lane_machine.specs.declared.call.LaneCall.{LaneCall}
use Rattle.lane_machine.specs.State.{State}
use Rattle.lane_machine.specs.Readiness.{is_ready}
use Rattle.lane_machine.specs.Histories.{History}
use Rattle.text_streams.specs.Streams.{WroteText}
use Rattle.pipe_laws.specs.Setup.{pipe_conn}
use Rattle.pipe_laws.specs.Said.{said}
use Rattle.pipe_laws.specs.Piped.{applied, before_call, behind_call, closed_by}
use Rattle.pipe_laws.specs.Groups.{Group, folded}
use Rattle.pipe_laws.specs.Lacking.{Agrees, HasAnswers}
use Rattle.lane_driver.specs.Driving.{Servant, Doer, run_at, Begins, Leads, Logged, Stays, BeganWriting, StoppedWriting}
use Rattle.lane_driver.specs.declared.course.Course.{Course}
use Rattle.lane_driver.specs.declared.course.Course.TheVariants.{Whole, Stopped}

-- before a call that isn't ready the group ends
abbrev pub befores : LaneCall → Doer
befores call servant run = before_call servant run call

-- after a call with which it is full the group ends
abbrev pub behinds : ℕ → Doer
behinds left servant run = behind_call servant left run

-- one call, after which so many more fit into the group
abbrev pub taking : ℕ → LaneCall → Doer
taking left call servant run = behind_call servant left (applied (before_call servant run call) call)

-- the end of the connection
abbrev pub ending : How → Doer
ending how servant run = closed_by servant how run

-- the call is ready
abbrev pub ReadyWhole : {E : Type 0} → Result Course E → State → State → LaneCall → Type 0
ReadyWhole (Ok Whole) s s' call = Stays s s' × (is_ready s' call ≡ true)
ReadyWhole (Ok Stopped) s s' call = Unit {0}
ReadyWhole (Err _) s s' call = Unit {0}

-- a group from this state on
abbrev pub group_at : State → History → ℕ → Group
group_at s h room = record { run = run_at s h; room = room }

-- the calls of a read, into a group with so much room
abbrev pub feeding : ℕ → ℕ → List LaneCall → Doer
feeding batch room calls servant run = (folded servant batch (record { run = run; room = room }) calls).run

-- some of the calls were made; the fold of what is left, from here on, is that of all
pub record Fed (batch : ℕ) (outcome : Servant) (s s' : State) (room room' : ℕ) (calls left : List LaneCall)
    (log log' : Option History) (out out' : SinkState) : Type 0 where
  pub entries : History
  pub leads : Leads s s' entries
  pub answers : HasAnswers outcome entries
  pub goes : (servant : Servant) → Agrees servant entries → (h : History)
      → folded servant batch (group_at s h room) calls ≡ folded servant batch (group_at s' (h ++ entries) room') left
  pub begins : Begins (feeding batch room calls) s entries
  pub logged : Logged entries log log'
  pub wrote : WroteText (said pipe_conn entries) out out'
  pub stays : Stays s s'
  pub some : 1 ≤ room'
  pub faults : out'.faults ≡ out.faults

-- what became of the calls of a read
abbrev pub Feeds : {E : Type 0} → Result Course E → ℕ → Servant → State → State → ℕ → ℕ → List LaneCall
    → Option History → Option History → SinkState → SinkState → Type 0
Feeds (Ok Whole) batch outcome s s' room room' calls log log' out out' = Fed batch outcome s s' room room' calls [] log log' out out'
Feeds (Ok Stopped) batch outcome s s' room room' calls log log' out out' =
    StoppedWriting (feeding batch room calls) outcome s log log' out out' × Rose out.faults out'.faults
Feeds (Err _) batch outcome s s' room room' calls log log' out out' = BeganWriting (feeding batch room calls) outcome s out out'
