-- What one message of a connection means to a server: CORBA 3.0.3, section 15.4. What ends the reading is own profile.
use Rattle.std.specs.Prelude.{◌≡◌, ℕ, length, Option, Some, Result, Ok, Err, MatchOption}
use Rattle.orb_base.specs.Span.{Span}
use Rattle.orb_base.specs.declared.conn_id.ConnId.{ConnId}
use Rattle.orb_base.specs.declared.order.Order.{Order}
use Rattle.orb_base.specs.declared.notice.What.TheVariants as what
use Rattle.giop_frames.specs.Messages as Frames
use Rattle.giop_messages.specs.Causes.{cause_of}
use Rattle.giop_messages.specs.Message.{Request, Locate, Message, request, reply, cancel, locate, located, close, error}
use Rattle.giop_messages.specs.MessageReading.{message_at}
use Rattle.giop_messages.specs.declared.message_fault.MessageFault.{MessageFault}
use Rattle.giop_messages.specs.declared.refused.Fault.TheVariants.{WrongWay}
use Rattle.lane_machine.specs.declared.call.LaneCall.{LaneCall}
use Rattle.lane_machine.specs.declared.call.LaneCall.TheVariants.{Post, Cancel}
use Rattle.adapter_policies.specs.SetupData.{SetupData}
use Rattle.request_judge.specs.Calls.{call_of}
use Rattle.request_judge.specs.Judging.{Judges}
use Rattle.request_judge.specs.Served.{is_here}
use Rattle.request_judge.specs.declared.refusal.Refusal.{Refusal}
use Rattle.request_judge.specs.declared.verdict.Verdict.{Verdict}
use Rattle.request_judge.specs.declared.verdict.Verdict.TheVariants.{Runs, Binds}
use Rattle.heard_calls.specs.declared.means.Means.{Means}
use Rattle.heard_calls.specs.declared.means.Means.TheVariants.{Goes, Ends, Breaks}

-- the answer to a question where an object is
abbrev pub where_is : SetupData → ConnId → Order → Locate → LaneCall
where_is setup conn order l = Post (record { conn = conn; order = order; id = l.id; what = what.Located (is_here setup l.target) })

-- the band that is bound after a request that isn't refused
abbrev pub bound_by : Verdict → Option Span → Option Span
bound_by (Binds bound) band = Some bound
bound_by (Runs place) band = band

-- the band that is bound after a request of a verdict
abbrev pub band_behind : Result Verdict Refusal → Option Span → Option Span
band_behind (Ok verdict) band = bound_by verdict band
band_behind (Err refusal) band = band

-- a request means what its verdict says
abbrev pub MeansRequest : SetupData → ConnId → Option Span → ℕ → Order → ℕ → Request → Means → Type 0
MeansRequest setup conn band serial order size r means =
    (verdict : Result Verdict Refusal) × Judges setup band r verdict
    × (means ≡ Goes (band_behind verdict band) (call_of conn serial order size r verdict))

-- what is read of a message means this: a request by its verdict, a CancelRequest its cancel, a LocateRequest its answer;
-- CloseConnection and MessageError end the reading; a message that the server alone sends breaks the connection, and one that
-- has no reading does for its first fault
abbrev pub MeansRead : SetupData → ConnId → Option Span → ℕ → Frames.Message → Result Message MessageFault → Means → Type 0
MeansRead setup conn band serial m (Ok (request r)) means = MeansRequest setup conn band serial m.order (length m.bytes) r means
MeansRead setup conn band serial m (Ok (cancel id)) means = means ≡ Goes band (Some (Cancel conn id))
MeansRead setup conn band serial m (Ok (locate l)) means = means ≡ Goes band (Some (where_is setup conn m.order l))
MeansRead setup conn band serial m (Ok (reply r)) means = means ≡ Breaks WrongWay
MeansRead setup conn band serial m (Ok (located l)) means = means ≡ Breaks WrongWay
MeansRead setup conn band serial m (Ok close) means = means ≡ Ends
MeansRead setup conn band serial m (Ok error) means = means ≡ Ends
MeansRead setup conn band serial m (Err fault) means = MatchOption (cause_of fault) ⊥ (λ cause. means ≡ Breaks cause)

-- a message means this, by the bound band and by the number of the calls before it
abbrev pub IsMeant : SetupData → ConnId → Option Span → ℕ → Frames.Message → Means → Type 0
IsMeant setup conn band serial m means = MeansRead setup conn band serial m (message_at m) means
