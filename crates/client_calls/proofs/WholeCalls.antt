-- A call from its first byte on.
use Rattle.std.proofs.Common.{◌≡◌, ℕ, ◌≤◌, ◌⊎◌, Bool, true, false, List, [], ◌∷◌, ◌++◌, length, Option, Some, None, Result, Ok, Err, refl, sym, ap, ◌∙◌, subst, inl, inr, arith, append_assoc, append-nil}
use Rattle.std.specs.Prelude.{◌==◌, option_map, is_some, if◌then◌else◌}
use Rattle.orb_base.specs.Outside.{SourceState, SinkState}
use Rattle.orb_base.specs.Span.{Span}
use Rattle.orb_base.specs.declared.limits.TheConstants.{MAX_MESSAGE}
use Rattle.banded_links.specs.declared.bind_client.TheConstants.{NO_EXCEPTION}
use Rattle.giop_frames.proofs.Grows.{nothing_said}
use Rattle.giop_frames.specs.Messages as Frames
use Rattle.giop_frames.specs.Stream.{Said, stream}
use Rattle.heard_messages.specs.Hearing.{nothing, Hears, HeardBy}
use Rattle.heard_messages.specs.Inputs.{HearsStream}
use Rattle.heard_messages.specs.ReadEnds.{decided, read_end}
use Rattle.heard_messages.specs.declared.read_end.ReadEnd.{ReadEnd}
use Rattle.heard_messages.specs.declared.read_end.TheConstants.{MAX_TAKEN}
use Rattle.text_streams.specs.Streams.{Gave, MeetsEnd, WroteText, WroteFrontOf}
use Rattle.text_streams.proofs.CallerLemmas.{gave_start, gave_more, gave_none, wrote_nothing, wrote_start, wrote_behind, wrote_all}
use Rattle.client_lines.specs.Answer.{Answer}
use Rattle.client_lines.specs.Awaiting.{first, means, call_id}
use Rattle.client_lines.specs.Lines.{Line, fed, IsNew, Took, GivesOut, IsOver, LacksMemory}
use Rattle.client_lines.specs.Lines as Lines
use Rattle.client_lines.specs.declared.awaited.TheConstants.{BIND_ID, FIRST_ID, NEXT_ID}
use Rattle.client_stub.specs.Asking.{Asked}
use Rattle.client_stub.specs.Sending.{IsSendable, call_bytes, bind_bytes}
use Rattle.client_calls.specs.Calls.{Exchanged, SentPrefix, Calls}
use Rattle.client_calls.specs.Exchanges.{binds, due_by, due, came_by, called, bound, outcome_of, HeardSo}
use Rattle.client_calls.specs.Replies.{Outcome, meaning_of, Means}
use Rattle.client_calls.specs.Steps.{Sends, Awaits, Comes, Stops, Asks, Binds}
use Rattle.client_calls.specs.declared.call_fault.CallFault.{CallFault}
use Rattle.client_calls.specs.declared.call_fault.CallFault.TheVariants.{WriteFault, NoMemory}
use Rattle.client_calls.proofs.AfterLines.{has_call, given_out, few_out}
use Rattle.client_calls.proofs.Outcomes.{IsPlain, plain, memory_or, whole_of, whole_map, broken_map, plain_unbroken, plain_reads, plain_writes, came_unbroken, came_reads, came_writes, reads_after, writes_after}

-- ---- a call after bytes that were written and read before it

met_after : (ended : Bool) (s s' s'' : SourceState) → s'.ends ≡ s.ends → MeetsEnd ended s' s'' → MeetsEnd ended s s''
met_after true s s' s'' same met = (omega (arith, same, met.0), met.1)
met_after false s s' s'' same met = met ∙ same

-- what was written and read before a call, by what a line gave out
pub record Before (asked : Asked) (l : Line) (sent : List ℕ) (s s' : SourceState) (o o' : SinkState) : Type 0 where
  pub same : Lines.binds l ≡ binds asked
  pub took : Took (fed l) s s'
  pub wrote : WroteText sent o o'
  pub sound : o'.faults ≡ o.faults
  pub is_due : (later : List Answer) → due asked (l.given ++ later) ≡ option_map (λ (call : List ℕ). sent ++ call) (call_bytes (call_id (Lines.binds l)) asked)
  pub comes : (later : List Answer) (end : ReadEnd) → outcome_of asked (l.given ++ later) end ≡ called asked.operation later end

came_so : (outcome : Outcome) (asked : Asked) (l : Line) (sent : List ℕ) (s s' s'' : SourceState) (o o' o'' : SinkState) → Before asked l sent s s' o o' → Comes outcome asked l s' s'' o' o''
    → Exchanged outcome asked s s'' o o''
came_so outcome asked l sent s s' s'' o o' o'' b c = record {
  sent = sent ++ c.call;
  got = fed l ++ c.piece;
  ended = c.ended;
  exchange = record {
    answers = l.given ++ c.later;
    end = c.end;
    stream = subst (λ (x : Bool). HearsStream (means x) (first x) (fed l ++ c.piece) c.ended (l.given ++ c.later) c.end) b.same c.stream;
    sent_is = b.is_due c.later ∙ ap (option_map (λ (call : List ℕ). sent ++ call)) c.is_call;
    outcome_is = c.outcome_is ∙ sym (b.comes c.later c.end);
  };
  gave = gave_more (fed l) c.piece s s' s'' b.took.gave c.gave.from_left c.gave.to_taken;
  met = met_after c.ended s s' s'' b.took.no_end c.met;
  wrote = wrote_behind sent c.call o o' o'' b.wrote c.wrote;
}

stopped_so : (asked : Asked) (l : Line) (sent : List ℕ) (s s' s'' : SourceState) (o o' o'' : SinkState) → Before asked l sent s s' o o' → Stops asked l s' s'' o' o'' → SentPrefix asked s s'' o o''
stopped_so asked l sent s s' s'' o o' o'' b c = record {
  bytes = fed l ++ c.piece;
  last = c.last;
  answers = l.given ++ c.later;
  ending = c.ending;
  heard = subst (λ (x : Bool). HeardBy (means x) (first x) (fed l ++ c.piece) (l.given ++ c.later) c.ending) b.same c.heard;
  gave = subst (λ (x : List ℕ). Gave x s s'') (sym (append_assoc (fed l) c.piece c.last))
      (gave_more (fed l) (c.piece ++ c.last) s s' s'' b.took.gave c.gave.from_left c.gave.to_taken);
  sent = sent ++ c.call;
  is_due = b.is_due c.later ∙ ap (option_map (λ (call : List ℕ). sent ++ call)) c.is_call;
  wrote = (c.wrote.0, wrote_all sent c.call c.wrote.0 o o' o'' b.wrote c.wrote.1);
}

calls_after : (outcome : Outcome) (asked : Asked) (l : Line) (sent : List ℕ) (s s' s'' : SourceState) (o o' o'' : SinkState) → Before asked l sent s s' o o' → Asks outcome asked l s' s'' o' o''
    → (asked.operation.oneway ≡ true → asked.band ≡ None → s'' ≡ s) → Calls outcome asked s s'' o o''
calls_after outcome asked l sent s s' s'' o o' o'' b h unread = record {
  exchange = whole_map outcome (Comes outcome asked l s' s'' o' o'') (Exchanged outcome asked s s'' o o'') (λ c. came_so outcome asked l sent s s' s'' o o' o'' b c) h.whole;
  prefix = broken_map outcome (Stops asked l s' s'' o' o'') (SentPrefix asked s s'' o o'') (λ c. stopped_so asked l sent s s' s'' o o' o'' b c) h.stopped;
  read_fault = reads_after outcome s s' s'' b.took.no_fault h.read_fault;
  write_fault = writes_after outcome o o' o'' b.sound h.write_fault;
  few = record {
    bytes = fed l ++ h.few.piece;
    few = h.few.few;
    gave = gave_more (fed l) h.few.piece s s' s'' b.took.gave h.few.gave.from_left h.few.gave.to_taken;
  };
  unread = unread;
}

-- ---- no band is bound

nothing_before : (o : Option (List ℕ)) → o ≡ option_map (λ (call : List ℕ). [] ++ call) o
nothing_before None = refl
nothing_before (Some call) = refl

pub calls_unbound : (outcome : Outcome) (asked : Asked) (l : Line) (s s' : SourceState) (o o' : SinkState) → IsNew false l → asked.band ≡ None → Asks outcome asked l s s' o o'
    → Calls outcome asked s s' o o'
calls_unbound outcome asked l s s' o o' new none h =
    let first_id : call_bytes FIRST_ID asked ≡ call_bytes (call_id (Lines.binds l)) asked = ap (λ (b : Bool). call_bytes (call_id b) asked) (sym new.binds_so) in
    let before : Before asked l [] s s o o = record {
      same = new.binds_so ∙ sym (ap (λ (b : Option Span). is_some b) none);
      took = subst (λ (b : List ℕ). Took b s s) (sym new.none_fed) (record { gave = gave_start s; no_end = refl; no_fault = refl });
      wrote = wrote_nothing o;
      sound = refl;
      is_due = λ later. ap (λ (b : Option Span). due_by b asked (l.given ++ later)) none ∙ first_id ∙ nothing_before (call_bytes (call_id (Lines.binds l)) asked);
      comes = λ later end. ap (λ (b : Option Span). if is_some b then bound asked.operation (l.given ++ later) end else called asked.operation (l.given ++ later) end) none
          ∙ ap (λ (xs : List Answer). called asked.operation (xs ++ later) end) new.none_given;
    } in
    calls_after outcome asked l [] s s s' o o o' before h (λ one unbound. h.unread one)

-- ---- a band is bound first

some_not_none : {P : Type 0} (band : Span) (o : Option Span) → o ≡ Some band → o ≡ None → P
some_not_none band o some none = absurd (cc)

due_bound : (asked : Asked) (band : Span) (a : Answer) (later : List Answer) → asked.band ≡ Some band → (a.status == NO_EXCEPTION) ≡ true
    → due asked (a ∷ later) ≡ option_map (λ (call : List ℕ). bind_bytes BIND_ID asked band ++ call) (call_bytes NEXT_ID asked)
due_bound asked band a later some well =
    ap (λ (b : Option Span). due_by b asked (a ∷ later)) some
    ∙ ap (λ (b : Bool). if b then option_map (λ (call : List ℕ). bind_bytes BIND_ID asked band ++ call) (call_bytes NEXT_ID asked) else Some (bind_bytes BIND_ID asked band)) well

by_bind : (asked : Asked) (band : Span) (answers : List Answer) (end : ReadEnd) → asked.band ≡ Some band → outcome_of asked answers end ≡ bound asked.operation answers end
by_bind asked band answers end some = ap (λ (b : Option Span). if is_some b then bound asked.operation answers end else called asked.operation answers end) some

comes_bound : (asked : Asked) (band : Span) (a : Answer) (later : List Answer) (end : ReadEnd) → asked.band ≡ Some band → (a.status == NO_EXCEPTION) ≡ true
    → outcome_of asked (a ∷ later) end ≡ called asked.operation later end
comes_bound asked band a later end some well =
    by_bind asked band (a ∷ later) end some ∙ ap (λ (b : Bool). if b then called asked.operation later end else meaning_of asked.operation a) well

-- what a new line was fed, once it gave out an answer
fed_out : (binding : Bool) (l l' : Line) (a : Answer) (s s' : SourceState) → IsNew binding l → (g : GivesOut l l' a s s') → fed l' ≡ g.piece
fed_out binding l l' a s s' new g = g.fed_is ∙ ap (λ (b : List ℕ). b ++ g.piece) new.none_fed

pub calls_bound : (outcome : Outcome) (asked : Asked) (band : Span) (a : Answer) (l l' : Line) (s s' s'' : SourceState) (o o' o'' : SinkState) → IsNew true l → asked.band ≡ Some band
    → GivesOut l l' a s s' → WroteText (bind_bytes BIND_ID asked band) o o' → o'.faults ≡ o.faults → (a.status == NO_EXCEPTION) ≡ true → Asks outcome asked l' s' s'' o' o''
    → Calls outcome asked s s'' o o''
calls_bound outcome asked band a l l' s s' s'' o o' o'' new some g wrote sound well h =
    let binding : Lines.binds l' ≡ true = g.same ∙ new.binds_so in
    let given : l'.given ≡ a ∷ [] = g.given_is ∙ ap (λ (xs : List Answer). xs ++ (a ∷ [])) new.none_given in
    let next : call_bytes NEXT_ID asked ≡ call_bytes (call_id (Lines.binds l')) asked = ap (λ (b : Bool). call_bytes (call_id b) asked) (sym binding) in
    let bind : List ℕ = bind_bytes BIND_ID asked band in
    let before : Before asked l' bind s s' o o' = record {
      same = binding ∙ sym (ap (λ (b : Option Span). is_some b) some);
      took = subst (λ (b : List ℕ). Took b s s') (sym (fed_out true l l' a s s' new g)) g.took;
      wrote = wrote;
      sound = sound;
      is_due = λ later. ap (λ (xs : List Answer). due asked (xs ++ later)) given ∙ due_bound asked band a later some well
          ∙ ap (option_map (λ (call : List ℕ). bind ++ call)) next;
      comes = λ later end. ap (λ (xs : List Answer). outcome_of asked (xs ++ later) end) given ∙ comes_bound asked band a later end some well;
    } in
    calls_after outcome asked l' bind s s' s'' o o' o'' before h (λ one unbound. some_not_none band asked.band some unbound)

-- ---- the band was not bound

due_unbound : (asked : Asked) (band : Span) (a : Answer) (later : List Answer) → asked.band ≡ Some band → (a.status == NO_EXCEPTION) ≡ false
    → due asked (a ∷ later) ≡ Some (bind_bytes BIND_ID asked band)
due_unbound asked band a later some ill =
    ap (λ (b : Option Span). due_by b asked (a ∷ later)) some
    ∙ ap (λ (b : Bool). if b then option_map (λ (call : List ℕ). bind_bytes BIND_ID asked band ++ call) (call_bytes NEXT_ID asked) else Some (bind_bytes BIND_ID asked band)) ill

comes_unbound : (asked : Asked) (band : Span) (a : Answer) (later : List Answer) (end : ReadEnd) → asked.band ≡ Some band → (a.status == NO_EXCEPTION) ≡ false
    → outcome_of asked (a ∷ later) end ≡ meaning_of asked.operation a
comes_unbound asked band a later end some ill =
    by_bind asked band (a ∷ later) end some ∙ ap (λ (b : Bool). if b then called asked.operation later end else meaning_of asked.operation a) ill

-- the bytes so far give this answer
heard_bind : (asked : Asked) (band : Span) (a : Answer) (l l' : Line) (s s' : SourceState) → IsNew true l → asked.band ≡ Some band → (g : GivesOut l l' a s s')
    → HeardSo asked g.piece (a ∷ l'.waiting) l'.ending
heard_bind asked band a l l' s s' new some g =
    let same : Lines.binds l ≡ binds asked = new.binds_so ∙ sym (ap (λ (b : Option Span). is_some b) some) in
    subst (λ (b : Bool). HeardBy (means b) (first b) g.piece (a ∷ l'.waiting) l'.ending) same
    (subst (λ (bytes : List ℕ). HeardBy (means (Lines.binds l)) (first (Lines.binds l)) (bytes ++ g.piece) (a ∷ l'.waiting) l'.ending) new.none_fed
    (subst (λ (xs : List Answer). HeardBy (means (Lines.binds l)) (first (Lines.binds l)) (fed l ++ g.piece) (xs ++ (a ∷ l'.waiting)) l'.ending) new.none_given (given_out l l' a s s' g)))

few_bind : (a : Answer) (l l' : Line) (s s' : SourceState) → IsNew true l → (g : GivesOut l l' a s s') → length g.piece ≤ MAX_TAKEN
few_bind a l l' s s' new g = subst (λ (bytes : List ℕ). length (bytes ++ g.piece) ≤ MAX_TAKEN) new.none_fed (few_out l l' a s s' g)

wrote_front : (bytes : List ℕ) (o o' : SinkState) → WroteText bytes o o' → WroteFrontOf bytes o o'
wrote_front bytes o o' wrote = ([], record { front = bytes; parts = sym (append-nil bytes); wrote = wrote })

refused_lacks : (asked : Asked) (band : Span) (a : Answer) (l l' : Line) (s s' : SourceState) (o o' : SinkState) → IsNew true l → asked.band ≡ Some band → GivesOut l l' a s s'
    → WroteText (bind_bytes BIND_ID asked band) o o' → o'.faults ≡ o.faults → (a.status == NO_EXCEPTION) ≡ false → Calls (Err NoMemory) asked s s' o o'
refused_lacks asked band a l l' s s' o o' new some g wrote sound ill = record {
  exchange = tt;
  prefix = record {
    bytes = g.piece;
    last = [];
    answers = a ∷ l'.waiting;
    ending = l'.ending;
    heard = heard_bind asked band a l l' s s' new some g;
    gave = subst (λ (b : List ℕ). Gave b s s') (sym (append-nil g.piece)) g.took.gave;
    sent = bind_bytes BIND_ID asked band;
    is_due = due_unbound asked band a l'.waiting some ill;
    wrote = wrote_front (bind_bytes BIND_ID asked band) o o' wrote;
  };
  read_fault = g.took.no_fault;
  write_fault = sound;
  few = record { bytes = g.piece; few = few_bind a l l' s s' new g; gave = g.took.gave };
  unread = λ one unbound. some_not_none band asked.band some unbound;
}

refused_so : (outcome : Outcome) (asked : Asked) (band : Span) (a : Answer) (l l' : Line) (s s' : SourceState) (o o' : SinkState) → IsNew true l → asked.band ≡ Some band → GivesOut l l' a s s'
    → WroteText (bind_bytes BIND_ID asked band) o o' → o'.faults ≡ o.faults → (a.status == NO_EXCEPTION) ≡ false → outcome ≡ meaning_of asked.operation a → Calls outcome asked s s' o o'
refused_so outcome asked band a l l' s s' o o' new some g wrote sound ill meant =
    let h : IsPlain outcome = subst (λ (x : Outcome). IsPlain x) (sym meant) (plain asked.operation a) in
    let end : ReadEnd = read_end l'.ending (length g.piece) false (stream MAX_MESSAGE g.piece).rest in
    let so : Exchanged outcome asked s s' o o' = record {
      sent = bind_bytes BIND_ID asked band;
      got = g.piece;
      ended = false;
      exchange = record {
        answers = a ∷ l'.waiting;
        end = end;
        stream = record { ending = l'.ending; heard = heard_bind asked band a l l' s s' new some g; comes = refl };
        sent_is = due_unbound asked band a l'.waiting some ill;
        outcome_is = meant ∙ sym (comes_unbound asked band a l'.waiting end some ill);
      };
      gave = g.took.gave;
      met = g.took.no_end;
      wrote = wrote;
    } in
    record {
      exchange = whole_of outcome (Exchanged outcome asked s s' o o') so;
      prefix = plain_unbroken outcome (SentPrefix asked s s' o o') h;
      read_fault = plain_reads outcome s s' h g.took.no_fault;
      write_fault = plain_writes outcome o o' h sound;
      few = record { bytes = g.piece; few = few_bind a l l' s s' new g; gave = g.took.gave };
      unread = λ one unbound. some_not_none band asked.band some unbound;
    }

refused_by : (outcome : Outcome) (asked : Asked) (band : Span) (a : Answer) (l l' : Line) (s s' : SourceState) (o o' : SinkState) → IsNew true l → asked.band ≡ Some band → GivesOut l l' a s s'
    → WroteText (bind_bytes BIND_ID asked band) o o' → o'.faults ≡ o.faults → (a.status == NO_EXCEPTION) ≡ false
    → (outcome ≡ Err NoMemory) ⊎ (outcome ≡ meaning_of asked.operation a) → Calls outcome asked s s' o o'
refused_by outcome asked band a l l' s s' o o' new some g wrote sound ill (inl e) =
    subst (λ (x : Outcome). Calls x asked s s' o o') (sym e) (refused_lacks asked band a l l' s s' o o' new some g wrote sound ill)
refused_by outcome asked band a l l' s s' o o' new some g wrote sound ill (inr e) = refused_so outcome asked band a l l' s s' o o' new some g wrote sound ill e

pub calls_refused : (outcome : Outcome) (asked : Asked) (band : Span) (a : Answer) (l l' : Line) (s s' : SourceState) (o o' : SinkState) → IsNew true l → asked.band ≡ Some band
    → GivesOut l l' a s s' → WroteText (bind_bytes BIND_ID asked band) o o' → o'.faults ≡ o.faults → (a.status == NO_EXCEPTION) ≡ false → Means outcome (meaning_of asked.operation a)
    → Calls outcome asked s s' o o'
calls_refused outcome asked band a l l' s s' o o' new some g wrote sound ill meant =
    refused_by outcome asked band a l l' s s' o o' new some g wrote sound ill (memory_or outcome (meaning_of asked.operation a) meant)

-- ---- nothing came

-- no bytes give no answer
heard_nothing : (asked : Asked) → HeardSo asked [] [] (decided None (stream MAX_MESSAGE []).bad)
heard_nothing asked = record {
  meaning = nothing (first (binds asked)) None;
  hears = subst (λ (ms : List Frames.Message). Hears (means (binds asked)) ms (first (binds asked)) 0 (nothing (first (binds asked)) None))
      (sym (ap (λ (x : Said). x.messages) (nothing_said MAX_MESSAGE))) refl;
  calls_are = refl;
  ends = refl;
}

unsent : (asked : Asked) (s : SourceState) (o o' : SinkState) (sent : List ℕ) → due asked [] ≡ Some sent → WroteFrontOf sent o o' → SentPrefix asked s s o o'
unsent asked s o o' sent is wrote = record {
  bytes = [];
  last = [];
  answers = [];
  ending = decided None (stream MAX_MESSAGE []).bad;
  heard = heard_nothing asked;
  gave = gave_start s;
  sent = sent;
  is_due = is;
  wrote = wrote;
}

-- what is due first
first_due : (asked : Asked) (o : Option Span) → IsSendable asked → (sent : List ℕ) × (due_by o asked [] ≡ Some sent)
first_due asked None short = let has = has_call asked FIRST_ID short in (has.call, has.is_call)
first_due asked (Some band) short = (bind_bytes BIND_ID asked band, refl)

-- out of memory before anything was sent
pub calls_none : (asked : Asked) (s : SourceState) (o : SinkState) → IsSendable asked → Calls (Err NoMemory) asked s s o o
calls_none asked s o short =
    let sent = first_due asked asked.band short in
    record {
      exchange = tt;
      prefix = unsent asked s o o sent.0 sent.1 (sent.0, wrote_start sent.0 o);
      read_fault = refl;
      write_fault = refl;
      few = gave_none MAX_TAKEN s;
      unread = λ one unbound. refl;
    }

due_first : (asked : Asked) (band : Span) → asked.band ≡ Some band → due asked [] ≡ Some (bind_bytes BIND_ID asked band)
due_first asked band some = ap (λ (b : Option Span). due_by b asked []) some

pub bind_unsent : (fault : CallFault) (asked : Asked) (band : Span) (s : SourceState) (o o' : SinkState) → asked.band ≡ Some band → Sends (Err fault) (bind_bytes BIND_ID asked band) o o'
    → Calls (Err fault) asked s s o o'
bind_unsent fault asked band s o o' some sends =
    let made : Calls (Err WriteFault) asked s s o o' = record {
      exchange = tt;
      prefix = unsent asked s o o' (bind_bytes BIND_ID asked band) (due_first asked band some) sends.1;
      read_fault = refl;
      write_fault = sends.2;
      few = gave_none MAX_TAKEN s;
      unread = λ one unbound. refl;
    } in
    subst (λ (f : CallFault). Calls (Err f) asked s s o o') (sym sends.0) made

-- ---- the bind's reply didn't come

bind_lacks : (asked : Asked) (band : Span) (l : Line) (s s' : SourceState) (o o' : SinkState) → IsNew true l → asked.band ≡ Some band → WroteText (bind_bytes BIND_ID asked band) o o'
    → o'.faults ≡ o.faults → LacksMemory l s s' → Calls (Err NoMemory) asked s s' o o'
bind_lacks asked band l s s' o o' new some wrote sound m =
    let same : Lines.binds l ≡ binds asked = new.binds_so ∙ sym (ap (λ (b : Option Span). is_some b) some) in
    record {
      exchange = tt;
      prefix = record {
        bytes = m.piece;
        last = m.last;
        answers = [];
        ending = m.ending;
        heard = subst (λ (b : Bool). HeardBy (means b) (first b) m.piece [] m.ending) same
            (subst (λ (bytes : List ℕ). HeardBy (means (Lines.binds l)) (first (Lines.binds l)) (bytes ++ m.piece) [] m.ending) new.none_fed
            (subst (λ (xs : List Answer). HeardBy (means (Lines.binds l)) (first (Lines.binds l)) (fed l ++ m.piece) xs m.ending) new.none_given m.heard));
        gave = m.took.gave;
        sent = bind_bytes BIND_ID asked band;
        is_due = due_first asked band some;
        wrote = wrote_front (bind_bytes BIND_ID asked band) o o' wrote;
      };
      read_fault = m.took.no_fault;
      write_fault = sound;
      few = record {
        bytes = m.piece ++ m.last;
        few = subst (λ (bytes : List ℕ). length ((bytes ++ m.piece) ++ m.last) ≤ MAX_TAKEN) new.none_fed m.few;
        gave = m.took.gave;
      };
      unread = λ one unbound. some_not_none band asked.band some unbound;
    }

bind_over : (end : ReadEnd) (asked : Asked) (band : Span) (l : Line) (s s' : SourceState) (o o' : SinkState) → IsNew true l → asked.band ≡ Some band
    → WroteText (bind_bytes BIND_ID asked band) o o' → o'.faults ≡ o.faults → IsOver l end s s' → Calls (Err (came_by end)) asked s s' o o'
bind_over end asked band l s s' o o' new some wrote sound m =
    let same : Lines.binds l ≡ binds asked = new.binds_so ∙ sym (ap (λ (b : Option Span). is_some b) some) in
    let so : Exchanged (Err (came_by end)) asked s s' o o' = record {
      sent = bind_bytes BIND_ID asked band;
      got = m.piece;
      ended = m.ended;
      exchange = record {
        answers = [];
        end = end;
        stream = subst (λ (b : Bool). HearsStream (means b) (first b) m.piece m.ended [] end) same
            (subst (λ (bytes : List ℕ). HearsStream (means (Lines.binds l)) (first (Lines.binds l)) (bytes ++ m.piece) m.ended [] end) new.none_fed
            (subst (λ (xs : List Answer). HearsStream (means (Lines.binds l)) (first (Lines.binds l)) (fed l ++ m.piece) m.ended xs end) new.none_given m.stream));
        sent_is = due_first asked band some;
        outcome_is = sym (by_bind asked band [] end some);
      };
      gave = m.gave;
      met = m.met;
      wrote = wrote;
    } in
    record {
      exchange = whole_of (Err (came_by end)) (Exchanged (Err (came_by end)) asked s s' o o') so;
      prefix = came_unbroken end (SentPrefix asked s s' o o');
      read_fault = came_reads end s s' m.counts;
      write_fault = came_writes end o o' sound;
      few = record { bytes = m.piece; few = subst (λ (bytes : List ℕ). length (bytes ++ m.piece) ≤ MAX_TAKEN) new.none_fed m.few; gave = m.gave };
      unread = λ one unbound. some_not_none band asked.band some unbound;
    }

missed_by : (fault : CallFault) (asked : Asked) (band : Span) (l : Line) (s s' : SourceState) (o o' : SinkState) → IsNew true l → asked.band ≡ Some band
    → WroteText (bind_bytes BIND_ID asked band) o o' → o'.faults ≡ o.faults
    → ((fault ≡ NoMemory) × LacksMemory l s s') ⊎ ((end : ReadEnd) × (fault ≡ came_by end) × IsOver l end s s') → Calls (Err fault) asked s s' o o'
missed_by fault asked band l s s' o o' new some wrote sound (inl p) =
    subst (λ (f : CallFault). Calls (Err f) asked s s' o o') (sym p.0) (bind_lacks asked band l s s' o o' new some wrote sound p.1)
missed_by fault asked band l s s' o o' new some wrote sound (inr p) =
    subst (λ (f : CallFault). Calls (Err f) asked s s' o o') (sym p.1) (bind_over p.0 asked band l s s' o o' new some wrote sound p.2)

pub bind_missed : (fault : CallFault) (asked : Asked) (band : Span) (l l' : Line) (s s' : SourceState) (o o' : SinkState) → IsNew true l → asked.band ≡ Some band
    → WroteText (bind_bytes BIND_ID asked band) o o' → o'.faults ≡ o.faults → Awaits (Err fault) l l' s s' → Calls (Err fault) asked s s' o o'
bind_missed fault asked band l l' s s' o o' new some wrote sound h = missed_by fault asked band l s s' o o' new some wrote sound h

-- ---- what the bind comes to

same_band : (asked : Asked) (a b : Span) → asked.band ≡ Some a → asked.band ≡ Some b → a ≡ b
same_band asked a b p q = let both : Some a ≡ Some b = sym p ∙ q in cc

pub bind_waits : (result : Result Answer CallFault) (asked : Asked) (band : Span) (l l' : Line) (s s' : SourceState) (o o' : SinkState) → IsNew true l → asked.band ≡ Some band
    → WroteText (bind_bytes BIND_ID asked band) o o' → o'.faults ≡ o.faults → Awaits result l l' s s' → Binds result asked l l' s s' o o'
bind_waits (Ok a) asked band l l' s s' o o' new some wrote sound h =
    (h, λ b is. subst (λ (x : Span). WroteText (bind_bytes BIND_ID asked x) o o') (same_band asked band b some is) wrote, sound)
bind_waits (Err f) asked band l l' s s' o o' new some wrote sound h = bind_missed f asked band l l' s s' o o' new some wrote sound h
