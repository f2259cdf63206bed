-- Messages mean one thing, and later ones add to it.
use Rattle.std.proofs.Common.{◌≡◌, ℕ, ◌+◌, List, [], ◌∷◌, ◌++◌, length, Option, Some, None, Result, Ok, Err, refl, sym, ap, ◌∙◌, subst, arith, append_assoc, length-append}
use Rattle.std.specs.Prelude.{option_to_list}
use Rattle.orb_base.specs.Span.{Span}
use Rattle.orb_base.specs.declared.conn_id.ConnId.{ConnId}
use Rattle.giop_frames.specs.Messages as Frames
use Rattle.giop_messages.specs.Message.{Message, request, reply, cancel, locate, located, close, error}
use Rattle.giop_messages.specs.MessageReading.{message_at}
use Rattle.giop_messages.specs.declared.message_fault.MessageFault.{MessageFault}
use Rattle.giop_messages.specs.declared.message_fault.MessageFault.TheVariants as faults
use Rattle.lane_machine.specs.declared.call.LaneCall.{LaneCall}
use Rattle.adapter_policies.specs.SetupData.{SetupData}
use Rattle.request_judge.specs.Calls.{call_of}
use Rattle.request_judge.specs.declared.refusal.Refusal.{Refusal}
use Rattle.request_judge.specs.declared.verdict.Verdict.{Verdict}
use Rattle.request_judge.proofs.OneVerdict.{one_verdict}
use Rattle.heard_calls.specs.Hearing.{Told, Hears, HearsOn, in_front}
use Rattle.heard_calls.specs.Laws.{GoesOn, HearingGoesOn, HearsOneWay}
use Rattle.heard_calls.specs.Meaning.{IsMeant, MeansRead, band_behind}
use Rattle.heard_calls.specs.declared.ending.Ending.{Ending}
use Rattle.heard_calls.specs.declared.means.Means.{Means}
use Rattle.heard_calls.specs.declared.means.Means.TheVariants.{Goes, Ends, Breaks}

fault_one : (setup : SetupData) (conn : ConnId) (band : Option Span) (serial : ℕ) (m : Frames.Message) (fault : MessageFault) (a b : Means)
    → MeansRead setup conn band serial m (Err fault) a → MeansRead setup conn band serial m (Err fault) b → a ≡ b
fault_one setup conn band serial m (faults.Cdr f) a b h k = h ∙ sym k
fault_one setup conn band serial m (faults.BadTarget place) a b h k = h ∙ sym k
fault_one setup conn band serial m (faults.BadStatus place) a b h k = h ∙ sym k
fault_one setup conn band serial m faults.NoMemory a b h k = absurd h

read_one : (setup : SetupData) (conn : ConnId) (band : Option Span) (serial : ℕ) (m : Frames.Message) (read : Result Message MessageFault) (a b : Means)
    → MeansRead setup conn band serial m read a → MeansRead setup conn band serial m read b → a ≡ b
read_one setup conn band serial m (Ok (request r)) a b h k =
    let same = one_verdict setup band r h.0 k.0 h.1 k.1 in
    h.2 ∙ ap (λ (v : Result Verdict Refusal). Goes (band_behind v band) (call_of conn serial m.order (length m.bytes) r v)) same ∙ sym k.2
read_one setup conn band serial m (Ok (cancel id)) a b h k = h ∙ sym k
read_one setup conn band serial m (Ok (locate l)) a b h k = h ∙ sym k
read_one setup conn band serial m (Ok (reply r)) a b h k = h ∙ sym k
read_one setup conn band serial m (Ok (located l)) a b h k = h ∙ sym k
read_one setup conn band serial m (Ok close) a b h k = h ∙ sym k
read_one setup conn band serial m (Ok error) a b h k = h ∙ sym k
read_one setup conn band serial m (Err fault) a b h k = fault_one setup conn band serial m fault a b h k

pub means_one : (setup : SetupData) (conn : ConnId) (band : Option Span) (serial : ℕ) (m : Frames.Message) (a b : Means)
    → IsMeant setup conn band serial m a → IsMeant setup conn band serial m b → a ≡ b
means_one setup conn band serial m a b h k = read_one setup conn band serial m (message_at m) a b h k

-- ---- one meaning

on_one : (setup : SetupData) (conn : ConnId) (ms : List Frames.Message) (band : Option Span) (serial at : ℕ) (means : Means) (a b : Told)
    → ((band : Option Span) (n : ℕ) (x y : Told) → Hears setup conn ms band n x → Hears setup conn ms band n y → x ≡ y)
    → HearsOn (Hears setup conn ms) band serial at means a → HearsOn (Hears setup conn ms) band serial at means b → a ≡ b
on_one setup conn ms band serial at (Goes bound call) a b one h k =
    h.2 ∙ ap (in_front (option_to_list call)) (one bound (serial + length (option_to_list call)) h.0 k.0 h.1 k.1) ∙ sym k.2
on_one setup conn ms band serial at Ends a b one h k = h ∙ sym k
on_one setup conn ms band serial at (Breaks fault) a b one h k = h ∙ sym k

pub hears_one : HearsOneWay
hears_one setup conn [] band serial a b h k = h ∙ sym k
hears_one setup conn (m ∷ ms) band serial a b h k =
    let same = means_one setup conn band serial m h.0 k.0 h.1 k.1 in
    on_one setup conn ms band serial m.at k.0 a b (hears_one setup conn ms)
    (subst (λ (x : Means). HearsOn (Hears setup conn ms) band serial m.at x a) same h.2) k.2

-- ---- further messages

-- what is heard after the calls of a message, after those of the later ones
front_goes : (o : Option Ending) (setup : SetupData) (conn : ConnId) (new : List Frames.Message) (serial : ℕ) (calls : List LaneCall) (told all : Told)
    → GoesOn o setup conn new (serial + length calls) told all → GoesOn o setup conn new serial (in_front calls told) (in_front calls all)
front_goes None setup conn new serial calls told all h =
    let counts : (serial + length calls) + length told.calls ≡ serial + length (calls ++ told.calls) = omega (arith, length-append calls told.calls) in (
      h.0,
      subst (λ (n : ℕ). Hears setup conn new told.band n h.0) counts h.1,
      ap (in_front calls) h.2 ∙ (λ i. record { calls = sym (append_assoc calls told.calls h.0.calls) i; band = h.0.band; ending = h.0.ending }),
    )
front_goes (Some e) setup conn new serial calls told all h = ap (in_front calls) h

on_goes : (setup : SetupData) (conn : ConnId) (ms new : List Frames.Message) (band : Option Span) (serial at : ℕ) (means : Means) (told all : Told)
    → ((band : Option Span) (n : ℕ) (x y : Told) → Hears setup conn ms band n x → Hears setup conn (ms ++ new) band n y → GoesOn x.ending setup conn new n x y)
    → HearsOn (Hears setup conn ms) band serial at means told → HearsOn (Hears setup conn (ms ++ new)) band serial at means all
    → GoesOn told.ending setup conn new serial told all
on_goes setup conn ms new band serial at (Goes bound call) told all goes h k =
    let calls : List LaneCall = option_to_list call in
    let later = goes bound (serial + length calls) h.0 k.0 h.1 k.1 in
    let both : GoesOn h.0.ending setup conn new serial (in_front calls h.0) (in_front calls k.0) = front_goes h.0.ending setup conn new serial calls h.0 k.0 later in
    subst (λ (t : Told). GoesOn t.ending setup conn new serial t all) (sym h.2)
    (subst (λ (t : Told). GoesOn h.0.ending setup conn new serial (in_front calls h.0) t) (sym k.2) both)
on_goes setup conn ms new band serial at Ends told all goes h k =
    subst (λ (t : Told). GoesOn t.ending setup conn new serial t all) (sym h) k
on_goes setup conn ms new band serial at (Breaks fault) told all goes h k =
    subst (λ (t : Told). GoesOn t.ending setup conn new serial t all) (sym h) k

pub goes_on : HearingGoesOn
goes_on setup conn [] new band serial told all h k =
    subst (λ (t : Told). GoesOn t.ending setup conn new serial t all) (sym h)
    (all, subst (λ (n : ℕ). Hears setup conn new band n all) (omega arith) k, refl)
goes_on setup conn (m ∷ ms) new band serial told all h k =
    let same = means_one setup conn band serial m h.0 k.0 h.1 k.1 in
    on_goes setup conn ms new band serial m.at k.0 told all (λ b n x y. goes_on setup conn ms new b n x y)
    (subst (λ (x : Means). HearsOn (Hears setup conn ms) band serial m.at x told) same h.2) k.2
