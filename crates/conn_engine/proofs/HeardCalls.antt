-- The calls of heard messages are those of a reading side, and their requests are numbered one after another. `pipe_runs` has the same
-- lemmas.
use Rattle.std.proofs.Common.{◌≡◌, ◌+◌, ◌<◌, ℕ, Bool, true, List, [], ◌∷◌, ◌++◌, length, Option, Some, None, Result, Ok, Err, slice_get, refl, sym, subst, arith}
use Rattle.std.specs.Prelude.{option_to_list}
use Rattle.std.specs.List.{HoldsAt}
use Rattle.std.proofs.lemmas.Option.{get_or_from_slice_get, slice_get-get_or}
use Rattle.orb_base.specs.JobRecord.{JobRecord}
use Rattle.orb_base.specs.Pool.{Pool, IsWellFormed}
use Rattle.orb_base.specs.Span.{Span}
use Rattle.orb_base.specs.declared.conn_id.ConnId.{ConnId}
use Rattle.orb_base.specs.declared.due.Due.{Due}
use Rattle.orb_base.specs.declared.due.Due.TheVariants as due
use Rattle.orb_base.specs.declared.lane_spec.LaneSpec.{LaneSpec}
use Rattle.orb_base.specs.declared.notice.What.{What}
use Rattle.orb_base.specs.declared.notice.What.TheVariants as what
use Rattle.orb_base.specs.declared.order.Order.{Order}
use Rattle.priority_models.proofs.Lanes.{lane_is}
use Rattle.priority_models.specs.Transforms.{mandated}
use Rattle.giop_frames.specs.Messages as Frames
use Rattle.giop_messages.specs.Flags.{due_of}
use Rattle.giop_messages.specs.Message.{Message, Request, request, reply, cancel, locate, located, close, error}
use Rattle.giop_messages.specs.MessageReading.{message_at}
use Rattle.giop_messages.specs.declared.message_fault.MessageFault.{MessageFault}
use Rattle.giop_messages.specs.declared.message_fault.MessageFault.TheVariants as faults
use Rattle.lane_machine.specs.Readiness.{HasLane}
use Rattle.lane_machine.specs.declared.call.LaneCall.{LaneCall}
use Rattle.adapter_policies.specs.SetupData.{SetupData}
use Rattle.pipe_laws.specs.Legality.{IsHeardCall, AreHeardCalls}
use Rattle.pipe_laws.specs.Serials.{IsNumbered, CountsFrom}
use Rattle.request_judge.specs.Answers.{answer_of}
use Rattle.request_judge.specs.Calls.{call_of, job_of, told_when}
use Rattle.request_judge.specs.Judging.{Judges, Running}
use Rattle.request_judge.specs.declared.refusal.Refusal.{Refusal}
use Rattle.request_judge.specs.declared.verdict.Place.{Place}
use Rattle.request_judge.specs.declared.verdict.Verdict.{Verdict}
use Rattle.request_judge.specs.declared.verdict.Verdict.TheVariants.{Runs, Binds}
use Rattle.request_judge.proofs.Runs.{ran_in}
use Rattle.heard_calls.specs.Hearing.{Told, Hears, HearsOn}
use Rattle.heard_calls.specs.Meaning.{MeansRead}
use Rattle.heard_calls.specs.declared.means.Means.{Means}
use Rattle.heard_calls.specs.declared.means.Means.TheVariants.{Goes, Ends, Breaks}

-- the call of a meaning
abbrev call_in : Means → Option LaneCall
call_in (Goes bound call) = call
call_in Ends = None
call_in (Breaks fault) = None

-- a call, where there is one, is one of the reading side, and its request has this number
abbrev IsOne : Pool → ConnId → ℕ → Option LaneCall → Type 0
IsOne pool conn serial None = Unit {0}
IsOne pool conn serial (Some call) = IsHeardCall pool conn call × IsNumbered serial call

told_one : (pool : Pool) (conn : ConnId) (serial : ℕ) (d : Due) (order : Order) (id : ℕ) (w : What) → IsOne pool conn serial (told_when d conn order id w)
told_one pool conn serial due.Nothing order id w = tt
told_one pool conn serial due.Early order id w = (refl, tt)
told_one pool conn serial due.Late order id w = (refl, tt)

lane_has : (laned : Bool) (lanes : List LaneSpec) (job : JobRecord) (lane : LaneSpec) → slice_get lanes job.lane ≡ Some lane
    → (laned ≡ true → HoldsAt (λ l. l.priority ≡ job.priority) lanes job.lane) → laned ≡ true → lane.priority ≡ job.priority
lane_has laned lanes job lane at has is =
    subst (λ (l : LaneSpec). l.priority ≡ job.priority) (get_or_from_slice_get lanes job.lane lane lane at) (has is lane)

lane_one : (laned : Bool) (lanes : List LaneSpec) (job : JobRecord) (o : Option LaneSpec) → slice_get lanes job.lane ≡ o → job.lane < length lanes
    → (laned ≡ true → HoldsAt (λ l. l.priority ≡ job.priority) lanes job.lane) → HasLane laned job o
lane_one laned lanes job (Some lane) at inside has = lane_has laned lanes job lane at has
lane_one laned lanes job None at inside has =
    let some = λ (d : LaneSpec). slice_get-get_or lanes job.lane d inside in
    absurd (let e = some (record { priority = 0; statics = 0; dynamics = 0 }) in cc)

runs_one : (setup : SetupData) (conn : ConnId) (band : Option Span) (serial : ℕ) (order : Order) (size : ℕ) (r : Request) (place : Place)
    → IsWellFormed setup.pool → Running setup band r (Ok place) → HasLane setup.pool.laned (job_of conn serial order size r place) (slice_get setup.pool.lanes place.lane)
runs_one setup conn band serial order size r place well runs =
    let job = job_of conn serial order size r place in
    let level : Option ℕ = mandated runs.served.model runs.served.priority runs.served.inbound runs.told.priority in
    let lane = lane_is setup.pool place.priority place.lane well (ran_in setup band runs.served level place runs.runs) in
    lane_one setup.pool.laned setup.pool.lanes job (slice_get setup.pool.lanes place.lane) refl lane.inside lane.priority

verdict_one : (setup : SetupData) (conn : ConnId) (band : Option Span) (serial : ℕ) (order : Order) (size : ℕ) (r : Request) (verdict : Result Verdict Refusal)
    → IsWellFormed setup.pool → Judges setup band r verdict → IsOne setup.pool conn serial (call_of conn serial order size r verdict)
verdict_one setup conn band serial order size r (Ok (Runs place)) well judges = ((refl, runs_one setup conn band serial order size r place well judges), refl)
verdict_one setup conn band serial order size r (Ok (Binds b)) well judges = told_one setup.pool conn serial (due_of r.flags) order r.id what.Bound
verdict_one setup conn band serial order size r (Err refusal) well judges = told_one setup.pool conn serial (due_of r.flags) order r.id (answer_of refusal)

fault_one : (setup : SetupData) (conn : ConnId) (band : Option Span) (serial : ℕ) (m : Frames.Message) (fault : MessageFault) (means : Means)
    → MeansRead setup conn band serial m (Err fault) means → IsOne setup.pool conn serial (call_in means)
fault_one setup conn band serial m (faults.Cdr f) means h = subst (λ (x : Means). IsOne setup.pool conn serial (call_in x)) (sym h) tt
fault_one setup conn band serial m (faults.BadTarget place) means h = subst (λ (x : Means). IsOne setup.pool conn serial (call_in x)) (sym h) tt
fault_one setup conn band serial m (faults.BadStatus place) means h = subst (λ (x : Means). IsOne setup.pool conn serial (call_in x)) (sym h) tt
fault_one setup conn band serial m faults.NoMemory means h = absurd h

read_one : (setup : SetupData) (conn : ConnId) (band : Option Span) (serial : ℕ) (m : Frames.Message) (read : Result Message MessageFault) (means : Means)
    → IsWellFormed setup.pool → MeansRead setup conn band serial m read means → IsOne setup.pool conn serial (call_in means)
read_one setup conn band serial m (Ok (request r)) means well h =
    subst (λ (x : Means). IsOne setup.pool conn serial (call_in x)) (sym h.2) (verdict_one setup conn band serial m.order (length m.bytes) r h.0 well h.1)
read_one setup conn band serial m (Ok (cancel id)) means well h = subst (λ (x : Means). IsOne setup.pool conn serial (call_in x)) (sym h) (refl, tt)
read_one setup conn band serial m (Ok (locate l)) means well h = subst (λ (x : Means). IsOne setup.pool conn serial (call_in x)) (sym h) (refl, tt)
read_one setup conn band serial m (Ok (reply r)) means well h = subst (λ (x : Means). IsOne setup.pool conn serial (call_in x)) (sym h) tt
read_one setup conn band serial m (Ok (located l)) means well h = subst (λ (x : Means). IsOne setup.pool conn serial (call_in x)) (sym h) tt
read_one setup conn band serial m (Ok close) means well h = subst (λ (x : Means). IsOne setup.pool conn serial (call_in x)) (sym h) tt
read_one setup conn band serial m (Ok error) means well h = subst (λ (x : Means). IsOne setup.pool conn serial (call_in x)) (sym h) tt
read_one setup conn band serial m (Err fault) means well h = fault_one setup conn band serial m fault means h

-- calls are such, the first of this number
abbrev AreOnes : Pool → ConnId → ℕ → List LaneCall → Type 0
AreOnes pool conn serial calls = AreHeardCalls pool conn calls × CountsFrom serial calls

one_more : (pool : Pool) (conn : ConnId) (serial : ℕ) (call : Option LaneCall) (later : List LaneCall) → IsOne pool conn serial call
    → AreOnes pool conn (serial + length (option_to_list call)) later → AreOnes pool conn serial (option_to_list call ++ later)
one_more pool conn serial None later one ones = (ones.0, subst (λ (n : ℕ). CountsFrom n later) (omega arith) ones.1)
one_more pool conn serial (Some call) later one ones = ((one.0, ones.0), (one.1, ones.1))

on_ones : (setup : SetupData) (conn : ConnId) (ms : List Frames.Message) (band : Option Span) (serial at : ℕ) (means : Means) (told : Told)
    → IsOne setup.pool conn serial (call_in means) → ((band : Option Span) (n : ℕ) (later : Told) → Hears setup conn ms band n later → AreOnes setup.pool conn n later.calls)
    → HearsOn (Hears setup conn ms) band serial at means told → AreOnes setup.pool conn serial told.calls
on_ones setup conn ms band serial at (Goes bound call) told one ones h =
    subst (λ (t : Told). AreOnes setup.pool conn serial t.calls) (sym h.2)
    (one_more setup.pool conn serial call h.0.calls one (ones bound (serial + length (option_to_list call)) h.0 h.1))
on_ones setup conn ms band serial at Ends told one ones h = subst (λ (t : Told). AreOnes setup.pool conn serial t.calls) (sym h) (tt, tt)
on_ones setup conn ms band serial at (Breaks fault) told one ones h = subst (λ (t : Told). AreOnes setup.pool conn serial t.calls) (sym h) (tt, tt)

pub heard_ones : (setup : SetupData) (conn : ConnId) (ms : List Frames.Message) (band : Option Span) (serial : ℕ) (told : Told)
    → IsWellFormed setup.pool → Hears setup conn ms band serial told → AreOnes setup.pool conn serial told.calls
heard_ones setup conn [] band serial told well h = subst (λ (t : Told). AreOnes setup.pool conn serial t.calls) (sym h) (tt, tt)
heard_ones setup conn (m ∷ ms) band serial told well h =
    on_ones setup conn ms band serial m.at h.0 told (read_one setup conn band serial m (message_at m) h.0 well h.1)
    (λ b n later hears. heard_ones setup conn ms b n later well hears) h.2
