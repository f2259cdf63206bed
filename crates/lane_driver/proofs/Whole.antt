-- The whole run of a connection's calls.
use Rattle.std.proofs.Common.{◌≡◌, ℕ, List, [], Option, ap, ◌∙◌, subst}
use Rattle.std.specs.Prelude.{Result, Ok, Err}
use Rattle.orb_base.specs.Outside.{SinkState, Rose}
use Rattle.orb_base.specs.JobRecord.{JobRecord}
use Rattle.orb_base.specs.declared.outcome.Outcome.{Outcome}
use Rattle.lane_machine.specs.declared.call.How.{How}
use Rattle.lane_machine.specs.declared.call.LaneCall.{LaneCall}
use Rattle.lane_machine.specs.State.{State, opening}
use Rattle.lane_machine.specs.Histories.{History}
use Rattle.adapter_policies.specs.SetupData.{SetupData}
use Rattle.pipe_laws.specs.Piped.{Run, settled, closed_by, answer_of, piped}
use Rattle.pipe_laws.specs.Groups.{Group}
use Rattle.pipe_laws.specs.Begun.{BeginsPiped}
use Rattle.pipe_laws.proofs.Folds.{groups_are_folded}
use Rattle.pipe_laws.proofs.Beginning.{begun_tells_lacks}
use Rattle.lane_driver.specs.declared.course.Course.{Course}
use Rattle.lane_driver.specs.declared.course.Course.TheVariants.{Whole, Stopped}
use Rattle.lane_driver.specs.Driving.{Servant, Doer, run_at, Begins, BeganWriting, StoppedWriting, Drives}
use Rattle.lane_driver.specs.Feeding.{ending, feeding, Fed, Feeds}
use Rattle.lane_driver.specs.Running.{running, RunsArePiped, BeginningsArePiped, DoneIsPiped, BegunIsPiped}
use Rattle.lane_driver.proofs.Fronts.{Grows, front_same}
use Rattle.lane_driver.proofs.Grow.{grows_settled, grows_closed, behind_both}
use Rattle.lane_driver.proofs.Items.{drives_then, want_first, grows_settling}
use Rattle.lane_driver.proofs.Calls.{whole_of, stopped_of, grows_ending}

-- the run of the pipe is this one
piped_is : (setup : SetupData) (outcome : List ℕ → JobRecord → Outcome) (batch : ℕ) (calls : List LaneCall) (how : How) (lacks : List ℕ)
    → piped setup outcome batch calls how lacks ≡ running batch calls how (answer_of setup outcome lacks) (run_at (opening setup.pool setup.slots setup.per_slot) [])
piped_is setup outcome batch calls how lacks =
    let servant = answer_of setup outcome lacks in
    ap (closed_by servant how) (groups_are_folded servant batch batch (run_at (opening setup.pool setup.slots setup.per_slot) []) calls)

pub runs_are_piped : RunsArePiped
runs_are_piped setup outcome batch calls how s entries does lacking =
    piped_is setup outcome batch calls how lacking.lacks ∙ does.done (answer_of setup outcome lacking.lacks) lacking.agrees []

pub beginnings_are_piped : BeginningsArePiped
beginnings_are_piped setup outcome batch calls how entries began lacking =
    let b = began.begins (answer_of setup outcome lacking.lacks) entries (front_same entries) lacking.agrees [] in
    (b.0, ap (λ (r : Run). r.history) (piped_is setup outcome batch calls how lacking.lacks) ∙ b.1)

-- whatever front of what was done a servant gives, its run of the pipe begins so
begins_piped : (setup : SetupData) (outcome : List ℕ → JobRecord → Outcome) (batch : ℕ) (calls : List LaneCall) (how : How)
    (entries : History) → Begins (running batch calls how) (opening setup.pool setup.slots setup.per_slot) entries
    → BeginsPiped setup outcome batch calls how entries
begins_piped setup outcome batch calls how entries begins lacks front is agrees =
    let b = begins (answer_of setup outcome lacks) front is agrees [] in
    (b.0, ap (λ (r : Run). r.history) (piped_is setup outcome batch calls how lacks) ∙ b.1)

pub done_is_piped : DoneIsPiped
done_is_piped setup outcome batch calls how n s entries can heard rises does =
    let lacking = begun_tells_lacks setup outcome batch calls how n entries can heard rises does.leads.legal does.answers
    (begins_piped setup outcome batch calls how entries does.begins) in
    (lacking, runs_are_piped setup outcome batch calls how s entries does lacking)

pub begun_is_piped : BegunIsPiped
begun_is_piped setup outcome batch calls how n entries can heard rises began =
    let lacking = begun_tells_lacks setup outcome batch calls how n entries can heard rises began.legal began.answers
    (begins_piped setup outcome batch calls how entries began.begins) in
    let front = beginnings_are_piped setup outcome batch calls how entries began lacking in
    (lacking, front.0, front.1)

-- ---- for the goals of `run_calls`

-- the end of the last group, and the end of the connection
abbrev pub lasting : How → Doer
lasting how servant run = closed_by servant how (settled servant run)

pub grows_lasting : (how : How) → Grows (lasting how)
grows_lasting how servant run =
    behind_both run (settled servant run) (lasting how servant run) (grows_settled servant run) (grows_closed servant how (settled servant run))

-- the calls, and the end of the last group
abbrev pub fed_settled : ℕ → List LaneCall → Doer
fed_settled batch calls servant run = settled servant (feeding batch batch calls servant run)

pub feeds_drive : {E : Type 0} (batch : ℕ) (outcome : Servant) (result : Result Course E) (s s' : State) (room' : ℕ) (calls : List LaneCall) (log log' : Option History) (out out' : SinkState)
    → Feeds result batch outcome s s' batch room' calls log log' out out' → Drives result (feeding batch batch calls) outcome s s' log log' out out'
feeds_drive batch outcome (Ok Whole) s s' room' calls log log' out out' fed = (
  record {
    entries = fed.entries;
    does_so = record { leads = fed.leads; answers = fed.answers; done = λ servant agrees h. ap (λ (g : Group). g.run) (fed.goes servant agrees h); begins = fed.begins };
    logged = fed.logged;
    wrote = fed.wrote;
  },
  fed.faults,
)
feeds_drive batch outcome (Ok Stopped) s s' room' calls log log' out out' fed = fed
feeds_drive batch outcome (Err e) s s' room' calls log log' out out' fed = fed

pub fed_want : (outcome : Servant) (batch : ℕ) (calls : List LaneCall) (how : How) (s : State) (out out' : SinkState)
    → BeganWriting (feeding batch batch calls) outcome s out out' → BeganWriting (running batch calls how) outcome s out out'
fed_want outcome batch calls how s out out' want = want_first (feeding batch batch calls) (lasting how) outcome s out out' (grows_lasting how) want

pub fed_stopped : (outcome : Servant) (batch : ℕ) (calls : List LaneCall) (how : How) (course : Course) (s s' : State) (room' : ℕ) (log log' : Option History) (out out' : SinkState)
    → course ≡ Stopped → Feeds {E = ⊥} (Ok course) batch outcome s s' batch room' calls log log' out out'
    → StoppedWriting (running batch calls how) outcome s log log' out out' × Rose out.faults out'.faults
fed_stopped outcome batch calls how course s s' room' log log' out out' is feeds =
    stopped_of (feeding batch batch calls) (lasting how) outcome course s s' log log' out out' is (grows_lasting how)
    (feeds_drive {E = ⊥} batch outcome (Ok course) s s' room' calls log log' out out' feeds)

pub fed_whole : (batch : ℕ) (outcome : Servant) (course : Course) (s s' : State) (room' : ℕ) (calls : List LaneCall) (log log' : Option History) (out out' : SinkState)
    → course ≡ Whole → Feeds {E = ⊥} (Ok course) batch outcome s s' batch room' calls log log' out out' → Fed batch outcome s s' batch room' calls [] log log' out out'
fed_whole batch outcome course s s' room' calls log log' out out' is feeds =
    subst (λ (x : Course). Feeds {E = ⊥} (Ok x) batch outcome s s' batch room' calls log log' out out') is feeds

-- the end of the last group after the calls
pub fed_settles : {F : Type 0} (outcome : Servant) (batch : ℕ) (calls : List LaneCall) (course : Course) (result : Result Course F) (s m s' : State) (room' : ℕ) (log mid log' : Option History) (out among out' : SinkState)
    → course ≡ Whole → Feeds {E = ⊥} (Ok course) batch outcome s m batch room' calls log mid out among → Drives result settled outcome m s' mid log' among out'
    → Drives result (fed_settled batch calls) outcome s s' log log' out out'
fed_settles outcome batch calls course result s m s' room' log mid log' out among out' is feeds drives =
    let one = whole_of (feeding batch batch calls) outcome course s m log mid out among is (feeds_drive {E = ⊥} batch outcome (Ok course) s m room' calls log mid out among feeds) in
    drives_then (feeding batch batch calls) settled outcome result s m s' log mid log' out among out' grows_settling one.0 one.1 drives

settled_want : (outcome : Servant) (batch : ℕ) (calls : List LaneCall) (how : How) (s : State) (out out' : SinkState)
    → BeganWriting (fed_settled batch calls) outcome s out out' → BeganWriting (running batch calls how) outcome s out out'
settled_want outcome batch calls how s out out' want = want_first (fed_settled batch calls) (ending how) outcome s out out' (grows_ending how) want

-- memory was wanting at that end
pub settled_want_as : (outcome : Servant) (batch : ℕ) (calls : List LaneCall) (how : How) (course : Course) (s m s' : State) (room' : ℕ) (log mid log' : Option History) (out among out' : SinkState)
    → course ≡ Whole → Feeds {E = ⊥} (Ok course) batch outcome s m batch room' calls log mid out among → BeganWriting settled outcome m among out'
    → BeganWriting (running batch calls how) outcome s out out'
settled_want_as outcome batch calls how course s m s' room' log mid log' out among out' is feeds want =
    let whole : Result Course (Unit {0}) = Err tt in
    settled_want outcome batch calls how s out out' (fed_settles outcome batch calls course whole s m s' room' log mid log' out among out' is feeds want)

pub settled_stopped : (outcome : Servant) (batch : ℕ) (calls : List LaneCall) (how : How) (course : Course) (s s' : State) (log log' : Option History) (out out' : SinkState)
    → course ≡ Stopped → Drives {E = ⊥} (Ok course) (fed_settled batch calls) outcome s s' log log' out out'
    → StoppedWriting (running batch calls how) outcome s log log' out out' × Rose out.faults out'.faults
settled_stopped outcome batch calls how course s s' log log' out out' is drives =
    stopped_of (fed_settled batch calls) (ending how) outcome course s s' log log' out out' is (grows_ending how) drives

pub ended_whole : {F : Type 0} (outcome : Servant) (batch : ℕ) (calls : List LaneCall) (how : How) (course : Course) (result : Result Course F) (s m s' : State) (log mid log' : Option History) (out among out' : SinkState)
    → course ≡ Whole → Drives {E = ⊥} (Ok course) (fed_settled batch calls) outcome s m log mid out among → Drives result (ending how) outcome m s' mid log' among out'
    → Drives result (running batch calls how) outcome s s' log log' out out'
ended_whole outcome batch calls how course result s m s' log mid log' out among out' is drives ends =
    let one = whole_of (fed_settled batch calls) outcome course s m log mid out among is drives in
    drives_then (fed_settled batch calls) (ending how) outcome result s m s' log mid log' out among out' (grows_ending how) one.0 one.1 ends
