-- What the messages of a connection mean offers jobs of mandated priorities.
use Rattle.std.proofs.Common.{◌≡◌, ℕ, ◌+◌, List, [], ◌∷◌, ◌++◌, length, Option, Some, None, refl, sym, ap, subst}
use Rattle.std.specs.Prelude.{Result, Ok, Err, option_to_list}
use Rattle.orb_base.specs.Span.{Span}
use Rattle.orb_base.specs.declared.conn_id.ConnId.{ConnId}
use Rattle.orb_base.specs.declared.due.Due.{Due}
use Rattle.orb_base.specs.declared.due.Due.TheVariants as due
use Rattle.orb_base.specs.declared.notice.What.{What}
use Rattle.orb_base.specs.declared.notice.What.TheVariants as what
use Rattle.orb_base.specs.declared.order.Order.{Order}
use Rattle.priority_models.specs.Transforms.{mandated}
use Rattle.giop_frames.specs.Messages as Frames
use Rattle.giop_messages.specs.Flags.{due_of}
use Rattle.giop_messages.specs.Message.{Message, Request, request, reply, cancel, locate, located, close, error}
use Rattle.giop_messages.specs.MessageReading.{message_at}
use Rattle.giop_messages.specs.declared.message_fault.MessageFault.{MessageFault}
use Rattle.giop_messages.specs.declared.message_fault.MessageFault.TheVariants as faults
use Rattle.lane_machine.specs.declared.call.LaneCall.{LaneCall}
use Rattle.adapter_policies.specs.SetupData.{SetupData}
use Rattle.request_judge.specs.Answers.{answer_of}
use Rattle.request_judge.specs.Calls.{job_of, told_when, call_of}
use Rattle.request_judge.specs.Judging.{Judges, Running, RunsAt}
use Rattle.request_judge.specs.Served.{Served}
use Rattle.request_judge.specs.declared.refusal.Refusal.{Refusal}
use Rattle.request_judge.specs.declared.verdict.Place.{Place}
use Rattle.request_judge.specs.declared.verdict.Verdict.{Verdict}
use Rattle.request_judge.specs.declared.verdict.Verdict.TheVariants.{Runs, Binds}
use Rattle.heard_calls.specs.Hearing.{Told, Hears, HearsOn}
use Rattle.heard_calls.specs.Meaning.{MeansRead}
use Rattle.heard_calls.specs.declared.means.Means.{Means}
use Rattle.heard_calls.specs.declared.means.Means.TheVariants.{Goes, Ends, Breaks}
use Rattle.server_laws.specs.Mandates.{IsMandated, OffersMandated, AreMandated}

-- where a request runs at a place, its mandated priority is that of the place
ran_at : (setup : SetupData) (band : Option Span) (served : Served) (m : Option ℕ) (place : Place) → RunsAt setup band served m (Ok place)
    → m ≡ Some place.priority
ran_at setup band served (Some p) place runs = ap Some (sym runs.1)
ran_at setup band served None place runs = absurd (cc)

runs_mandated : (setup : SetupData) (conn : ConnId) (band : Option Span) (serial : ℕ) (order : Order) (size : ℕ) (r : Request) (place : Place)
    → Running setup band r (Ok place) → IsMandated setup (job_of conn serial order size r place)
runs_mandated setup conn band serial order size r place runs = record {
  asks = r;
  order = order;
  size = size;
  place = place;
  job_is = refl;
  served = runs.served;
  told = runs.told;
  asked = runs.asked;
  level = ran_at setup band runs.served (mandated runs.served.model runs.served.priority runs.served.inbound runs.told.priority) place runs.runs;
}

-- a call, where there is one, offers such a job or none
abbrev OffersOne : SetupData → Option LaneCall → Type 0
OffersOne setup None = Unit {0}
OffersOne setup (Some call) = OffersMandated setup call

told_offers : (setup : SetupData) (d : Due) (conn : ConnId) (order : Order) (id : ℕ) (w : What) → OffersOne setup (told_when d conn order id w)
told_offers setup due.Nothing conn order id w = tt
told_offers setup due.Early conn order id w = tt
told_offers setup due.Late conn order id w = tt

verdict_offers : (setup : SetupData) (conn : ConnId) (band : Option Span) (serial : ℕ) (order : Order) (size : ℕ) (r : Request) (verdict : Result Verdict Refusal)
    → Judges setup band r verdict → OffersOne setup (call_of conn serial order size r verdict)
verdict_offers setup conn band serial order size r (Ok (Runs place)) judges = runs_mandated setup conn band serial order size r place judges
verdict_offers setup conn band serial order size r (Ok (Binds b)) judges = told_offers setup (due_of r.flags) conn order r.id what.Bound
verdict_offers setup conn band serial order size r (Err refusal) judges = told_offers setup (due_of r.flags) conn order r.id (answer_of refusal)

-- the call of a meaning offers such a job or none
abbrev MeansMandated : SetupData → Means → Type 0
MeansMandated setup (Goes bound call) = OffersOne setup call
MeansMandated setup Ends = Unit {0}
MeansMandated setup (Breaks fault) = Unit {0}

fault_means : (setup : SetupData) (conn : ConnId) (band : Option Span) (serial : ℕ) (m : Frames.Message) (fault : MessageFault) (means : Means)
    → MeansRead setup conn band serial m (Err fault) means → MeansMandated setup means
fault_means setup conn band serial m (faults.Cdr f) means h = subst (MeansMandated setup) (sym h) tt
fault_means setup conn band serial m (faults.BadTarget place) means h = subst (MeansMandated setup) (sym h) tt
fault_means setup conn band serial m (faults.BadStatus place) means h = subst (MeansMandated setup) (sym h) tt
fault_means setup conn band serial m faults.NoMemory means h = absurd h

read_means : (setup : SetupData) (conn : ConnId) (band : Option Span) (serial : ℕ) (m : Frames.Message) (read : Result Message MessageFault) (means : Means)
    → MeansRead setup conn band serial m read means → MeansMandated setup means
read_means setup conn band serial m (Ok (request r)) means h =
    subst (MeansMandated setup) (sym h.2) (verdict_offers setup conn band serial m.order (length m.bytes) r h.0 h.1)
read_means setup conn band serial m (Ok (cancel id)) means h = subst (MeansMandated setup) (sym h) tt
read_means setup conn band serial m (Ok (locate l)) means h = subst (MeansMandated setup) (sym h) tt
read_means setup conn band serial m (Ok (reply r)) means h = subst (MeansMandated setup) (sym h) tt
read_means setup conn band serial m (Ok (located l)) means h = subst (MeansMandated setup) (sym h) tt
read_means setup conn band serial m (Ok close) means h = subst (MeansMandated setup) (sym h) tt
read_means setup conn band serial m (Ok error) means h = subst (MeansMandated setup) (sym h) tt
read_means setup conn band serial m (Err fault) means h = fault_means setup conn band serial m fault means h

one_more : (setup : SetupData) (call : Option LaneCall) (later : List LaneCall) → OffersOne setup call → AreMandated setup later
    → AreMandated setup (option_to_list call ++ later)
one_more setup None later one rest = rest
one_more setup (Some call) later one rest = (one, rest)

on_mandated : (setup : SetupData) (conn : ConnId) (ms : List Frames.Message) (band : Option Span) (serial at : ℕ) (means : Means) (told : Told)
    → MeansMandated setup means → ((band : Option Span) (n : ℕ) (later : Told) → Hears setup conn ms band n later → AreMandated setup later.calls)
    → HearsOn (Hears setup conn ms) band serial at means told → AreMandated setup told.calls
on_mandated setup conn ms band serial at (Goes bound call) told one rest h =
    subst (λ (t : Told). AreMandated setup t.calls) (sym h.2)
    (one_more setup call h.0.calls one (rest bound (serial + length (option_to_list call)) h.0 h.1))
on_mandated setup conn ms band serial at Ends told one rest h = subst (λ (t : Told). AreMandated setup t.calls) (sym h) tt
on_mandated setup conn ms band serial at (Breaks fault) told one rest h = subst (λ (t : Told). AreMandated setup t.calls) (sym h) tt

pub heard_mandated : (setup : SetupData) (conn : ConnId) (ms : List Frames.Message) (band : Option Span) (serial : ℕ) (told : Told)
    → Hears setup conn ms band serial told → AreMandated setup told.calls
heard_mandated setup conn [] band serial told h = subst (λ (t : Told). AreMandated setup t.calls) (sym h) tt
heard_mandated setup conn (m ∷ ms) band serial told h =
    on_mandated setup conn ms band serial m.at h.0 told (read_means setup conn band serial m (message_at m) h.0 h.1)
    (λ b n later hears. heard_mandated setup conn ms b n later hears) h.2
