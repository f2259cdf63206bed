-- What requests mean to a server ends no reading.
use Rattle.std.proofs.Common.{◌≡◌, ℕ, zero, suc, ◌+◌, ◌<◌, Bool, true, false, List, [], ◌∷◌, ◌++◌, length, Option, Some, None, Result, Ok, refl, sym, ap, ◌∙◌, subst, arith}
use Rattle.std.specs.Prelude.{◌==◌, if◌then◌else◌}
use Rattle.orb_base.specs.Pool.{Pool}
use Rattle.orb_base.specs.Span.{Span}
use Rattle.orb_base.specs.declared.conn_id.ConnId.{ConnId}
use Rattle.orb_base.specs.declared.limits.TheConstants.{MAX_MESSAGE}
use Rattle.giop_frames.specs.Messages as Frames
use Rattle.giop_frames.specs.Stream.{Said, stream}
use Rattle.giop_frames.specs.declared.fault.FrameFault.{FrameFault}
use Rattle.giop_frames.proofs.Grows.{Grows, stream_grows}
use Rattle.giop_messages.specs.Message.{Message, Request, request, key}
use Rattle.giop_messages.specs.MessageReading.{message_at}
use Rattle.giop_messages.specs.declared.message_fault.MessageFault.{MessageFault}
use Rattle.lane_machine.specs.declared.call.LaneCall.{LaneCall}
use Rattle.adapter_policies.specs.SetupData.{SetupData}
use Rattle.request_judge.specs.Calls.{call_of}
use Rattle.heard_calls.specs.Hearing.{Told, Hears, HearsOn}
use Rattle.heard_calls.specs.Input.{at_end}
use Rattle.heard_calls.specs.Meaning.{MeansRead, band_behind}
use Rattle.heard_calls.specs.declared.ending.Ending.{Ending}
use Rattle.heard_calls.specs.declared.means.Means.{Means}
use Rattle.heard_calls.specs.declared.means.Means.TheVariants.{Goes}
use Rattle.conn_engine.specs.Ends.{HearsStream, read_end}
use Rattle.conn_engine.specs.HeardSoFar.{HeardSoFar, decided}
use Rattle.conn_engine.specs.declared.read_end.ReadEnd.{ReadEnd}
use Rattle.conn_engine.specs.declared.read_end.ReadEnd.TheVariants as read
use Rattle.conn_engine.specs.declared.read_end.TheConstants.{MAX_TAKEN}
use Rattle.load_runs.specs.Generated.{Aim, operation, contexts_of, sent_level, request_at, AreRead, StreamsThem}

-- this message is read as a request
abbrev Asks : Frames.Message → Type 0
Asks m = (r : Request) × (message_at m ≡ Ok (request r))

-- so is each of these
abbrev AllAsk : List Frames.Message → Type 0
AllAsk [] = Unit {0}
AllAsk (m ∷ ms) = Asks m × AllAsk ms

asks_last : (ms : List Frames.Message) (m : Frames.Message) → AllAsk ms → Asks m → AllAsk (ms ++ m ∷ [])
asks_last [] m all one = (one, tt)
asks_last (l ∷ ms) m all one = (all.0, asks_last ms m all.1 one)

asks_front : (ms ns : List Frames.Message) → AllAsk (ms ++ ns) → AllAsk ms
asks_front [] ns all = tt
asks_front (m ∷ ms) ns all = (all.0, asks_front ms ns all.1)

asks_read : (aim : Aim) (pool : Pool) (seed n : ℕ) (ms : List Frames.Message) → AreRead (request_at aim pool seed) n ms → AllAsk ms
asks_read aim pool seed zero ms h = let P : List Frames.Message → Type 0 = λ xs. AllAsk xs in subst P (sym h) tt
asks_read aim pool seed (suc n) ms h =
    let P : List Frames.Message → Type 0 = λ xs. AllAsk xs in
    let r : Request = record {
      id = n + 1;
      flags = 3;
      target = key aim.object;
      operation = operation;
      contexts = contexts_of (sent_level aim.model pool seed n);
      body = [];
    } in
    subst P (sym h.4) (asks_last h.0 h.1 (asks_read aim pool seed n h.0 h.2) (r, h.3))

-- requests end no reading
goes_on : (setup : SetupData) (conn : ConnId) (ms : List Frames.Message) (band : Option Span) (serial : ℕ) (told : Told) → AllAsk ms → Hears setup conn ms band serial told → told.ending ≡ None
goes_on setup conn [] band serial told all h = ap (λ (t : Told). t.ending) h
goes_on setup conn (m ∷ ms) band serial told all h =
    let r : Request = all.0.0 in
    let meant : MeansRead setup conn band serial m (Ok (request r)) h.0 =
    subst (λ (x : Result Message MessageFault). MeansRead setup conn band serial m x h.0) all.0.1 h.1 in
    let on : HearsOn (Hears setup conn ms) band serial m.at (Goes (band_behind meant.0 band) (call_of conn serial m.order (length m.bytes) r meant.0)) told =
    subst (λ (x : Means). HearsOn (Hears setup conn ms) band serial m.at x told) meant.2 h.2 in
    ap (λ (t : Told). t.ending) on.2 ∙ goes_on setup conn ms _ _ on.0 all.1 on.1

no_fault : (bad : Option FrameFault) (s s' : Said) → s.bad ≡ bad → Grows s s' → s'.bad ≡ None → s.bad ≡ None
no_fault None s s' is g none = is
no_fault (Some f) s s' is g none =
    let wrong : Some f ≡ None = sym is ∙ sym (ap (λ (x : Said). x.bad) (g.stops f is)) ∙ none in absurd (cc)

-- the first bytes of such a stream end no reading
pub ends_nothing : (setup : SetupData) (conn : ConnId) (aim : Aim) (pool : Pool) (seed n : ℕ) (input bytes rest : List ℕ) (calls : List LaneCall) (ending : Option Ending)
    → StreamsThem (request_at aim pool seed) n input → input ≡ bytes ++ rest → HeardSoFar setup conn bytes calls ending → ending ≡ None
ends_nothing setup conn aim pool seed n input bytes rest calls ending streams parts heard =
    let early : Said = stream MAX_MESSAGE bytes in
    let late : Said = stream MAX_MESSAGE (bytes ++ rest) in
    let says : late ≡ record { messages = streams.messages; rest = None; bad = None } = ap (stream MAX_MESSAGE) (sym parts) ∙ streams.says in
    let g : Grows early late = stream_grows MAX_MESSAGE bytes rest in
    let sound : early.bad ≡ None = no_fault early.bad early late refl g (ap (λ (x : Said). x.bad) says) in
    let P : List Frames.Message → Type 0 = λ xs. AllAsk xs in
    let all : AllAsk (early.messages ++ g.new) =
    subst P (sym (ap (λ (x : Said). x.messages) says) ∙ g.more) (asks_read aim pool seed n streams.messages streams.are) in
    let told : heard.told.ending ≡ None = goes_on setup conn early.messages None 0 heard.told (asks_front early.messages g.new all) heard.hears in
    heard.ends ∙ ap (λ (o : Option Ending). decided o early.bad) told ∙ ap (decided None) sound

by_full : (full ended : Bool) (rest : Option ℕ) (end : ReadEnd) → full ≡ false → end ≡ (if full then read.Spent else if ended then read.Ended (at_end None rest) else read.ReadFault)
    → end ≡ (if ended then read.Ended (at_end None rest) else read.ReadFault)
by_full true ended rest end not is = absurd (cc)
by_full false ended rest end not is = is

-- the reading came to the end of the input, or failed
pub comes_so : (setup : SetupData) (conn : ConnId) (bytes : List ℕ) (ended : Bool) (calls : List LaneCall) (end : ReadEnd) (heard : HearsStream setup conn bytes ended calls end)
    → heard.ending ≡ None → length bytes < MAX_TAKEN → end ≡ (if ended then read.Ended (at_end None (stream MAX_MESSAGE bytes).rest) else read.ReadFault)
comes_so setup conn bytes ended calls end heard none few =
    by_full (length bytes == MAX_TAKEN) ended (stream MAX_MESSAGE bytes).rest end (grind arith)
    (heard.comes ∙ ap (λ (o : Option Ending). read_end o (length bytes) ended (stream MAX_MESSAGE bytes).rest) none)
