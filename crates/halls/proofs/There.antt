-- An invocation that bytes mean is of an object that is there.
use Rattle.std.proofs.Common.{◌≡◌, ℕ, ◌+◌, ◌<◌, List, [], ◌∷◌, ◌++◌, length, Option, Some, None, Result, Ok, Err, sym, ap, subst, option_to_list, MatchOption}
use Rattle.std.specs.Prelude.{slice_get}
use Rattle.std.specs.Option.{option_map}
use Rattle.std.proofs.lemmas.Option.{same_Some, slice_get_within, option_and_then_some}
use Rattle.orb_base.specs.declared.conn_id.ConnId.{ConnId}
use Rattle.orb_base.specs.declared.notice.Notice.{Notice}
use Rattle.giop_frames.specs.Messages as Frames
use Rattle.giop_messages.specs.Message.{Message, request, reply, cancel, locate, located, close, error}
use Rattle.giop_messages.specs.MessageReading.{message_at}
use Rattle.giop_messages.specs.declared.message_fault.MessageFault.{MessageFault}
use Rattle.giop_messages.specs.Message as Messages
use Rattle.giop_messages.specs.Causes.{cause_of}
use Rattle.giop_messages.specs.declared.refused.Fault.{Fault}
use Rattle.heard_messages.specs.Hearing.{Meaning, MeansRead, Hears, HearsOn}
use Rattle.heard_messages.specs.declared.means.Means.{Means}
use Rattle.heard_messages.specs.declared.means.Means.TheVariants.{Goes, Ends, Breaks}
use Rattle.priority_models.specs.Transforms.{mandated}
use Rattle.adapter_policies.specs.Index.{number_from}
use Rattle.adapter_policies.specs.SetupData.{AdapterData, SetupData}
use Rattle.adapter_policies.specs.declared.object_spec.ObjectSpec.{ObjectSpec}
use Rattle.request_judge.specs.Calls.{notice_of}
use Rattle.request_judge.specs.InHall.{JudgesInHall, RunsAt}
use Rattle.request_judge.specs.Answers.{answer_of}
use Rattle.request_judge.specs.Served.{Served, served_by, served_as, served_of, served_at}
use Rattle.request_judge.specs.declared.refusal.Refusal.{Refusal}
use Rattle.request_judge.specs.declared.verdict.Place.{Place}
use Rattle.halls.specs.Calls.{IsThere, AreThere}
use Rattle.halls.specs.Meaning.{means, call_of}
use Rattle.halls.specs.declared.call.HallCall.{HallCall}
use Rattle.halls.specs.declared.call.HallCall.TheVariants.{Post}

-- an object that is served is one of the setup's
number_is : (setup : SetupData) (n : ℕ) (o : ObjectSpec) (a : Option AdapterData) (s : Served) → option_map (served_by n o) a ≡ Some s → s.number ≡ n
number_is setup n o (Some a) s h = sym (ap (λ (z : Served). z.number) (same_Some (served_by n o a) s h))
number_is setup n o None s h = absurd (cc)

served_there : (setup : SetupData) (key : List ℕ) (s : Served) → served_at setup key ≡ Some s → s.number < length setup.objects
served_there setup key s h =
    option_and_then_some (served_of setup) (number_from 0 setup.objects key) s h (λ n is of.
    option_and_then_some (served_as setup n) (slice_get setup.objects n) s of (λ o found seen.
    subst (λ (k : ℕ). k < length setup.objects) (sym (number_is setup n o (slice_get setup.adapters o.adapter) s seen))
    (slice_get_within setup.objects n o found)))

runs_there : (setup : SetupData) (s : Served) (m : Option ℕ) (place : Place) → RunsAt setup s m (Ok place) → place.target ≡ s.number
runs_there setup s (Some p) place h = h.0
runs_there setup s None place h = absurd (cc)

-- a call, if there is one
abbrev MayBeThere : ℕ → Option HallCall → Type 0
MayBeThere objects None = Unit {0}
MayBeThere objects (Some call) = IsThere objects call

posts_there : (objects : ℕ) (o : Option Notice) → MayBeThere objects (option_map Post o)
posts_there objects None = tt
posts_there objects (Some n) = tt

called_there : (setup : SetupData) (conn : ConnId) (serial size : ℕ) (m : Frames.Message) (r : Messages.Request) (v : Result Place Refusal)
    → JudgesInHall setup r v → MayBeThere (length setup.objects) (call_of conn serial m.order size r v)
called_there setup conn serial size m r (Ok place) h =
    subst (λ (k : ℕ). k < length setup.objects)
    (sym (runs_there setup h.served (mandated h.served.model h.served.priority h.served.inbound h.told.priority) place h.runs))
    (served_there setup h.asked.object_key h.served h.asked.found)
called_there setup conn serial size m r (Err refusal) h = posts_there (length setup.objects) (notice_of conn m.order r (answer_of refusal))

-- what a message means calls for nothing, or for what is there
abbrev MeansThere : ℕ → Means (Unit {0}) HallCall → Type 0
MeansThere objects (Goes bound call) = MayBeThere objects call
MeansThere objects Ends = Unit {0}
MeansThere objects (Breaks fault) = Unit {0}

message_there : (setup : SetupData) (conn : ConnId) (serial size : ℕ) (m : Frames.Message) (message : Message) (x : Means (Unit {0}) HallCall)
    → means setup conn tt serial m.order size message x → MeansThere (length setup.objects) x
message_there setup conn serial size m (request r) x h = subst (MeansThere (length setup.objects)) (sym h.2) (called_there setup conn serial size m r h.0 h.1)
message_there setup conn serial size m (reply r) x h = subst (MeansThere (length setup.objects)) (sym h) tt
message_there setup conn serial size m (cancel id) x h = subst (MeansThere (length setup.objects)) (sym h) tt
message_there setup conn serial size m (locate l) x h = subst (MeansThere (length setup.objects)) (sym h) tt
message_there setup conn serial size m (located l) x h = subst (MeansThere (length setup.objects)) (sym h) tt
message_there setup conn serial size m close x h = subst (MeansThere (length setup.objects)) (sym h) tt
message_there setup conn serial size m error x h = subst (MeansThere (length setup.objects)) (sym h) tt

breaks_there : (objects : ℕ) (o : Option Fault) (x : Means (Unit {0}) HallCall) → MatchOption o ⊥ (λ cause. x ≡ Breaks cause) → MeansThere objects x
breaks_there objects None x h = absurd h
breaks_there objects (Some cause) x h = subst (MeansThere objects) (sym h) tt

read_there : (setup : SetupData) (conn : ConnId) (serial : ℕ) (m : Frames.Message) (read : Result Message MessageFault) (x : Means (Unit {0}) HallCall)
    → MeansRead (means setup conn) tt serial m read x → MeansThere (length setup.objects) x
read_there setup conn serial m (Ok message) x h = message_there setup conn serial (length m.bytes) m message x h
read_there setup conn serial m (Err fault) x h = breaks_there (length setup.objects) (cause_of fault) x h

pub there_both : (objects : ℕ) (xs ys : List HallCall) → AreThere objects xs → AreThere objects ys → AreThere objects (xs ++ ys)
there_both objects [] ys h k = k
there_both objects (x ∷ xs) ys h k = (h.0, there_both objects xs ys h.1 k)

pub later_there : (objects : ℕ) (xs ys : List HallCall) → AreThere objects (xs ++ ys) → AreThere objects ys
later_there objects [] ys h = h
later_there objects (x ∷ xs) ys h = later_there objects xs ys h.1

first_there : (objects : ℕ) (call : Option HallCall) → MayBeThere objects call → AreThere objects (option_to_list call)
first_there objects None h = tt
first_there objects (Some call) h = (h, tt)

module _ (setup : SetupData) (conn : ConnId) where
  on_there : (ms : List Frames.Message) (serial at : ℕ) (x : Means (Unit {0}) HallCall) (all : Meaning (Unit {0}) HallCall)
      → ((n : ℕ) (later : Meaning (Unit {0}) HallCall) → Hears (means setup conn) ms tt n later → AreThere (length setup.objects) later.calls)
      → MeansThere (length setup.objects) x → HearsOn (Hears (means setup conn) ms) tt serial at x all → AreThere (length setup.objects) all.calls
  on_there ms serial at (Goes bound call) all rest t h =
      subst (λ (a : Meaning (Unit {0}) HallCall). AreThere (length setup.objects) a.calls) (sym h.2)
      (there_both (length setup.objects) (option_to_list call) h.0.calls (first_there (length setup.objects) call t) (rest (serial + length (option_to_list call)) h.0 h.1))
  on_there ms serial at Ends all rest t h = subst (λ (a : Meaning (Unit {0}) HallCall). AreThere (length setup.objects) a.calls) (sym h) tt
  on_there ms serial at (Breaks fault) all rest t h = subst (λ (a : Meaning (Unit {0}) HallCall). AreThere (length setup.objects) a.calls) (sym h) tt

  pub calls_there : (ms : List Frames.Message) (serial : ℕ) (all : Meaning (Unit {0}) HallCall) → Hears (means setup conn) ms tt serial all
      → AreThere (length setup.objects) all.calls
  calls_there [] serial all h = subst (λ (a : Meaning (Unit {0}) HallCall). AreThere (length setup.objects) a.calls) (sym h) tt
  calls_there (m ∷ ms) serial all h =
      on_there ms serial m.at h.0 all (λ n later k. calls_there ms n later k) (read_there setup conn serial m (message_at m) h.0 h.1) h.2
