-- What one piece more comes to, after the bytes that were fed before it.
use Rattle.std.proofs.Common.{◌≡◌, ℕ, ◌+◌, ◌≤◌, ◌<◌, false, List, [], ◌∷◌, ◌++◌, length, Option, Some, None, Result, Ok, Err, refl, sym, ap, ◌∙◌, subst, arith, append_assoc, length-append}
use Rattle.std.specs.Prelude.{option_to_list, IfOk}
use Rattle.std.proofs.lemmas.Option.{same_Some}
use Rattle.orb_base.specs.Span.{Span}
use Rattle.orb_base.specs.declared.conn_id.ConnId.{ConnId}
use Rattle.orb_base.specs.declared.limits.TheConstants.{MAX_MESSAGE}
use Rattle.giop_frames.proofs.Grows.{nothing_said}
use Rattle.giop_frames.specs.Feeds.{Feed, said, Tells, Adds}
use Rattle.giop_frames.specs.Messages as Frames
use Rattle.giop_frames.specs.Stream.{Said, stream}
use Rattle.giop_frames.specs.declared.fault.FeedFault.{FeedFault}
use Rattle.giop_frames.specs.declared.fault.FeedFault.TheVariants as feed
use Rattle.giop_frames.specs.declared.fault.FrameFault.{FrameFault}
use Rattle.giop_messages.proofs.CallerLemmas.{first_messages}
use Rattle.lane_machine.specs.declared.call.LaneCall.{LaneCall}
use Rattle.adapter_policies.specs.SetupData.{SetupData}
use Rattle.heard_calls.specs.Hearing.{Told, Hears, HearsOn, in_front, nothing}
use Rattle.heard_calls.specs.Input.{fault_in}
use Rattle.heard_calls.specs.declared.ending.Ending.{Ending}
use Rattle.heard_calls.specs.declared.ending.Ending.TheVariants.{Ended, Broken}
use Rattle.heard_calls.specs.declared.means.Means.{Means}
use Rattle.heard_calls.specs.declared.means.Means.TheVariants.{Goes, Ends, Breaks}
use Rattle.heard_calls.proofs.StreamCounts.{few_messages}
use Rattle.conn_engine.specs.HeardSoFar.{decided}
use Rattle.conn_engine.specs.Hearers.{Hearer, IsFraming, FramesOn, IsGoing, IsNew, FeedsOn}

-- ---- messages behind others

-- the meaning of later messages is after that of the earlier ones, where none of those ended the reading
on_both : (setup : SetupData) (conn : ConnId) (ms new : List Frames.Message) (band : Option Span) (serial at : ℕ) (means : Means) (told later : Told)
    → ((band : Option Span) (n : ℕ) (x : Told) → x.ending ≡ None → Hears setup conn ms band n x → Hears setup conn new x.band (n + length x.calls) later
    → Hears setup conn (ms ++ new) band n (in_front x.calls later))
    → told.ending ≡ None → HearsOn (Hears setup conn ms) band serial at means told → Hears setup conn new told.band (serial + length told.calls) later
    → HearsOn (Hears setup conn (ms ++ new)) band serial at means (in_front told.calls later)
on_both setup conn ms new band serial at (Goes bound call) told later both undecided h k =
    let calls : List LaneCall = option_to_list call in
    let first : Told = h.0 in
    let its_band : told.band ≡ first.band = ap (λ (t : Told). t.band) h.2 in
    let its_calls : told.calls ≡ calls ++ first.calls = ap (λ (t : Told). t.calls) h.2 in
    let counts : serial + length told.calls ≡ (serial + length calls) + length first.calls = omega (arith, ap length its_calls, length-append calls first.calls) in
    let on : Hears setup conn new first.band ((serial + length calls) + length first.calls) later =
    subst (λ (b : Option Span). Hears setup conn new b ((serial + length calls) + length first.calls) later) its_band
    (subst (λ (n : ℕ). Hears setup conn new told.band n later) counts k) in (
      in_front first.calls later,
      both bound (serial + length calls) first (sym (ap (λ (t : Told). t.ending) h.2) ∙ undecided) h.1 on,
      λ i. record { calls = (ap (λ (cs : List LaneCall). cs ++ later.calls) its_calls ∙ append_assoc calls first.calls later.calls) i; band = later.band; ending = later.ending },
    )
on_both setup conn ms new band serial at Ends told later both undecided h k =
    let ended : Some Ended ≡ None = sym (ap (λ (t : Told). t.ending) h) ∙ undecided in absurd (cc)
on_both setup conn ms new band serial at (Breaks fault) told later both undecided h k =
    let ended : Some (Broken at fault) ≡ None = sym (ap (λ (t : Told). t.ending) h) ∙ undecided in absurd (cc)

pub hears_both : (setup : SetupData) (conn : ConnId) (ms new : List Frames.Message) (band : Option Span) (serial : ℕ) (told later : Told)
    → told.ending ≡ None → Hears setup conn ms band serial told → Hears setup conn new told.band (serial + length told.calls) later
    → Hears setup conn (ms ++ new) band serial (in_front told.calls later)
hears_both setup conn [] new band serial told later undecided h k =
    let its_band : told.band ≡ band = ap (λ (t : Told). t.band) h in
    let its_calls : told.calls ≡ [] = ap (λ (t : Told). t.calls) h in
    let none : serial + length told.calls ≡ serial = omega (arith, ap length its_calls) in
    subst (λ (cs : List LaneCall). Hears setup conn new band serial (in_front cs later)) (sym its_calls)
    (subst (λ (b : Option Span). Hears setup conn new b serial later) its_band (subst (λ (n : ℕ). Hears setup conn new told.band n later) none k))
hears_both setup conn (m ∷ ms) new band serial told later undecided h k =
    (h.0, h.1, on_both setup conn ms new band serial m.at h.0 told later (λ b n x. hears_both setup conn ms new b n x later) undecided h.2 k)

-- ---- no more calls than messages

one_call : (call : Option LaneCall) → length (option_to_list call) ≤ 1
one_call None = grind arith
one_call (Some call) = grind arith

few_on : (setup : SetupData) (conn : ConnId) (ms : List Frames.Message) (band : Option Span) (serial at : ℕ) (means : Means) (told : Told)
    → ((band : Option Span) (n : ℕ) (x : Told) → Hears setup conn ms band n x → length x.calls ≤ length ms)
    → HearsOn (Hears setup conn ms) band serial at means told → length told.calls ≤ 1 + length ms
few_on setup conn ms band serial at (Goes bound call) told few h =
    omega (arith, ap (λ (t : Told). length t.calls) h.2, length-append (option_to_list call) h.0.calls, one_call call, few bound (serial + length (option_to_list call)) h.0 h.1)
few_on setup conn ms band serial at Ends told few h = omega (arith, ap (λ (t : Told). length t.calls) h)
few_on setup conn ms band serial at (Breaks fault) told few h = omega (arith, ap (λ (t : Told). length t.calls) h)

pub few_calls : (setup : SetupData) (conn : ConnId) (ms : List Frames.Message) (band : Option Span) (serial : ℕ) (told : Told)
    → Hears setup conn ms band serial told → length told.calls ≤ length ms
few_calls setup conn [] band serial told h = omega (arith, ap (λ (t : Told). length t.calls) h)
few_calls setup conn (m ∷ ms) band serial told h =
    let few = few_on setup conn ms band serial m.at h.0 told (few_calls setup conn ms) h.2 in omega (arith, few)

-- ---- a piece is framed

said_is : (f : Feed) → f.limit ≡ MAX_MESSAGE → said f ≡ stream MAX_MESSAGE f.fed
said_is f limit = ap (λ (n : ℕ). stream n f.fed) limit

framed : (result : Result (Unit {0}) FeedFault) (bad : Option FrameFault) (f f' : Feed) (whole whole' : List Frames.Message) → IsFraming f → f'.limit ≡ f.limit → whole ≡ []
    → f'.lacked ≡ false → (said f').bad ≡ bad → Adds f f' whole whole' → Tells result f f' whole whole' → FramesOn f f' whole' bad
framed result bad f f' whole whole' going same none enough broke adds tells =
    let limit : f'.limit ≡ MAX_MESSAGE = same ∙ going.limit_is in
    let new : adds.new ≡ whole' = sym (adds.gives ∙ ap (λ (ms : List Frames.Message). ms ++ adds.new) none) in
    record {
      framing = record { limit_is = limit; enough = enough };
      messages_are = ap (λ (s : Said). s.messages) (sym (said_is f' limit)) ∙ adds.says_new ∙ ap (λ (s : Said). s.messages ++ adds.new) (said_is f going.limit_is)
          ∙ ap (λ (ms : List Frames.Message). (stream MAX_MESSAGE f.fed).messages ++ ms) new;
      bad_is = ap (λ (s : Said). s.bad) (sym (said_is f' limit)) ∙ broke;
      readable = first_messages result f f' whole whole' none (omega (arith, limit)) tells;
    }

pub frames_on : (result : Result (Unit {0}) FeedFault) (bad : Option FrameFault) (f f' : Feed) (whole whole' : List Frames.Message) → fault_in result ≡ Some bad → IsFraming f
    → f'.limit ≡ f.limit → whole ≡ [] → Tells result f f' whole whole' → FramesOn f f' whole' bad
frames_on (Ok x) bad f f' whole whole' is going same none tells =
    framed (Ok x) bad f f' whole whole' going same none tells.1 (tells.2 ∙ same_Some None bad is) tells.3 tells
frames_on (Err (feed.Frame e)) bad f f' whole whole' is going same none tells =
    framed (Err (feed.Frame e)) bad f f' whole whole' going same none tells.1 (tells.2 ∙ same_Some (Some e) bad is) tells.3 tells
frames_on (Err feed.NoMemory) bad f f' whole whole' is going same none tells = absurd (cc)

pub frames_if : {E : Type 0} (answer : Result (Option FrameFault) E) (result : Result (Unit {0}) FeedFault) (f f' : Feed) (whole whole' : List Frames.Message)
    → IfOk answer (λ bad. fault_in result ≡ Some bad) → IsFraming f → f'.limit ≡ f.limit → whole ≡ [] → Tells result f f' whole whole'
    → IfOk answer (λ bad. FramesOn f f' whole' bad)
frames_if (Ok bad) result f f' whole whole' is going same none tells = frames_on result bad f f' whole whole' is going same none tells
frames_if (Err e) result f f' whole whole' is going same none tells = tt

-- ---- the first byte is still to come

pub new_hearing : (h : Hearer) → h.framer ≡ record { limit = MAX_MESSAGE; fed = []; lacked = false; kept = 0 } → h.band ≡ None → h.made ≡ 0 → h.calls ≡ [] → IsNew h.setup h.conn h
new_hearing h framer band made given =
    let none : h.framer.fed ≡ [] = ap (λ (f : Feed). f.fed) framer in
    let says : stream MAX_MESSAGE h.framer.fed ≡ record { messages = []; rest = None; bad = None } = ap (stream MAX_MESSAGE) none ∙ nothing_said MAX_MESSAGE in
    record {
      setup_is = refl;
      conn_is = refl;
      none_fed = none;
      none_given = given;
      going = record {
        framing = record { limit_is = ap (λ (f : Feed). f.limit) framer; enough = ap (λ (f : Feed). f.lacked) framer };
        heard = record {
          told = nothing None None;
          hears = subst (λ (ms : List Frames.Message). Hears h.setup h.conn ms None 0 (nothing None None)) (sym (ap (λ (s : Said). s.messages) says)) refl;
          calls_are = given;
          ends = sym (ap (λ (s : Said). decided None s.bad) says);
        };
        band_is = band;
        made_is = made ∙ sym (ap length given);
      };
    }

-- ---- a piece is heard

-- no more calls than bytes, with a piece more
pub few_with : (h : Hearer) (f' : Feed) (piece : List ℕ) (messages : List Frames.Message) (bad : Option FrameFault) (limit : ℕ) → IsGoing h → FramesOn h.framer f' messages bad
    → f'.fed ≡ h.framer.fed ++ piece → length h.framer.fed + length piece < limit → h.made + length messages < limit
few_with h f' piece messages bad limit going frames fed few =
    let before = few_calls h.setup h.conn (stream MAX_MESSAGE h.framer.fed).messages None 0 going.heard.told going.heard.hears in
    let all = few_messages MAX_MESSAGE f'.fed in
    let counts : length (stream MAX_MESSAGE f'.fed).messages ≡ length (stream MAX_MESSAGE h.framer.fed).messages + length messages =
    ap length frames.messages_are ∙ length-append (stream MAX_MESSAGE h.framer.fed).messages messages in
    omega (arith, before, all, counts, going.made_is, ap length going.heard.calls_are, ap length fed, length-append h.framer.fed piece)

pub feeds_on : (h h' : Hearer) (piece : List ℕ) (messages : List Frames.Message) (bad : Option FrameFault) (later : Told) (calls : List LaneCall) (ending : Option Ending)
    → IsGoing h → FramesOn h.framer h'.framer messages bad → Hears h.setup h.conn messages h.band h.made later
    → h'.setup ≡ h.setup → h'.conn ≡ h.conn → h'.framer.fed ≡ h.framer.fed ++ piece → h'.band ≡ later.band → h'.made ≡ h.made + length later.calls
    → h'.calls ≡ h.calls ++ calls → calls ≡ later.calls → ending ≡ decided later.ending bad → FeedsOn h h' piece calls ending
feeds_on h h' piece messages bad later calls ending going frames hears same_setup same_conn fed band made given are ends =
    let told : Told = going.heard.told in
    let all : Told = in_front told.calls later in
    let earlier : List Frames.Message = (stream MAX_MESSAGE h.framer.fed).messages in
    let undecided : told.ending ≡ None = decides_none told.ending (stream MAX_MESSAGE h.framer.fed).bad (sym going.heard.ends) in
    let counts : h.made ≡ 0 + length told.calls = omega (arith, going.made_is, ap length going.heard.calls_are) in
    let next : Hears h.setup h.conn messages told.band (0 + length told.calls) later =
    subst (λ (b : Option Span). Hears h.setup h.conn messages b (0 + length told.calls) later) going.band_is
    (subst (λ (n : ℕ). Hears h.setup h.conn messages h.band n later) counts hears) in
    let both : Hears h.setup h.conn (stream MAX_MESSAGE h'.framer.fed).messages None 0 all =
    subst (λ (ms : List Frames.Message). Hears h.setup h.conn ms None 0 all) (sym frames.messages_are)
    (hears_both h.setup h.conn earlier messages None 0 told later undecided going.heard.hears next) in
    let here : Hears h'.setup h'.conn (stream MAX_MESSAGE h'.framer.fed).messages None 0 all =
    subst (λ (s : SetupData). Hears s h'.conn (stream MAX_MESSAGE h'.framer.fed).messages None 0 all) (sym same_setup)
    (subst (λ (c : ConnId). Hears h.setup c (stream MAX_MESSAGE h'.framer.fed).messages None 0 all) (sym same_conn) both) in
    let all_calls : h'.calls ≡ told.calls ++ later.calls =
    given ∙ ap (λ (cs : List LaneCall). cs ++ calls) going.heard.calls_are ∙ ap (λ (cs : List LaneCall). told.calls ++ cs) are in
    let ending_is : ending ≡ decided later.ending (stream MAX_MESSAGE h'.framer.fed).bad = ends ∙ ap (decided later.ending) (sym frames.bad_is) in
    record {
      same_setup = same_setup;
      same_conn = same_conn;
      fed_is = fed;
      calls_are = given;
      heard = record { told = all; hears = here; calls_are = all_calls; ends = ending_is };
      goes_on = λ none. record {
        framing = frames.framing;
        heard = record { told = all; hears = here; calls_are = all_calls; ends = sym none ∙ ending_is };
        band_is = band;
        made_is = omega (arith, made, going.made_is, ap length given, length-append h.calls calls, ap length are);
      };
    }
  where
    decides_none : (o : Option Ending) (bad : Option FrameFault) → decided o bad ≡ None → o ≡ None
    decides_none (Some e) bad is = absurd (cc)
    decides_none None bad is = refl
