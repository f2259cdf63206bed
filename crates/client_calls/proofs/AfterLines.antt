-- The call after what a line gave out.
use Rattle.std.proofs.Common.{◌≡◌, ℕ, ◌≤◌, ◌⊎◌, Bool, true, false, List, [], ◌∷◌, ◌++◌, length, Option, Some, Ok, Err, refl, sym, ap, ◌∙◌, subst, inl, inr, arith, append_assoc, append-nil}
use Rattle.std.specs.Prelude.{option_map, if◌then◌else◌}
use Rattle.orb_base.specs.Outside.{SourceState, SinkState}
use Rattle.orb_base.specs.declared.limits.TheConstants.{MAX_MESSAGE}
use Rattle.orb_base.specs.declared.order.Order.TheVariants.{Big}
use Rattle.cdr_values.specs.Trees.{Value}
use Rattle.giop_frames.specs.Stream.{stream}
use Rattle.giop_messages.specs.Spelling.{spelled}
use Rattle.heard_messages.specs.Hearing.{HeardBy}
use Rattle.heard_messages.specs.Inputs.{HearsStream}
use Rattle.heard_messages.specs.ReadEnds.{read_end}
use Rattle.heard_messages.specs.declared.read_end.ReadEnd.{ReadEnd}
use Rattle.heard_messages.specs.declared.read_end.TheConstants.{MAX_TAKEN}
use Rattle.idl_types.specs.Things.{OperationView}
use Rattle.text_streams.specs.Streams.{Gave, WroteText, WroteFrontOf}
use Rattle.text_streams.proofs.CallerLemmas.{gave_start, wrote_start}
use Rattle.client_lines.specs.Answer.{Answer}
use Rattle.client_lines.specs.Awaiting.{first, means, call_id}
use Rattle.client_lines.specs.Lines.{Line, fed, binds, IsHeard, GivesOut, IsOver, LacksMemory}
use Rattle.client_stub.specs.Asking.{Asked}
use Rattle.client_stub.specs.Requests.{call_of}
use Rattle.client_stub.specs.Sending.{IsSendable, call_bytes}
use Rattle.client_calls.specs.Exchanges.{came_by, first_meaning, called}
use Rattle.client_calls.specs.Replies.{Outcome, giving, meaning_of, Means}
use Rattle.client_calls.specs.Steps.{Sends, Awaits, Comes, Stops, TookFew, Asks}
use Rattle.client_calls.specs.declared.call_fault.CallFault.{CallFault}
use Rattle.client_calls.specs.declared.call_fault.CallFault.TheVariants.{WriteFault, NoMemory}
use Rattle.client_calls.proofs.Outcomes.{IsPlain, plain, memory_or, whole_of, plain_unbroken, plain_reads, plain_writes, came_unbroken, came_reads, came_writes}

-- what a line says of bytes and answers
abbrev pub SaysSo : Line → List ℕ → List Answer → Option ReadEnd → Type 0
SaysSo l bytes answers ending = HeardBy (means (binds l)) (first (binds l)) bytes answers ending

-- ---- nothing more was read

heard_here : (l : Line) → IsHeard l → SaysSo l (fed l ++ []) (l.given ++ l.waiting) l.ending
heard_here l h = subst (λ (b : List ℕ). SaysSo l b (l.given ++ l.waiting) l.ending) (sym (append-nil (fed l))) h.heard

took_none : (l : Line) (s : SourceState) → IsHeard l → TookFew l s s
took_none l s h = record { piece = []; few = omega (arith, h.count_is, h.few, ap length (append-nil (fed l))); gave = gave_start s }

-- the bytes of the call
pub record HasCall (asked : Asked) (id : ℕ) : Type 0 where
  pub call : List ℕ
  pub is_call : call_bytes id asked ≡ Some call

pub has_call : (asked : Asked) (id : ℕ) → IsSendable asked → HasCall asked id
has_call asked id short = record {
  call = spelled Big (call_of id asked short.is_len.body);
  is_call = ap (option_map (λ (body : List ℕ). spelled Big (call_of id asked body))) short.is_len.has_body;
}

stops_here : (asked : Asked) (l : Line) (s : SourceState) (o o' : SinkState) (call : List ℕ) → IsHeard l → call_bytes (call_id (binds l)) asked ≡ Some call → WroteFrontOf call o o'
    → Stops asked l s s o o'
stops_here asked l s o o' call h is wrote = record {
  piece = [];
  last = [];
  later = l.waiting;
  ending = l.ending;
  heard = heard_here l h;
  gave = gave_start s;
  call = call;
  is_call = is;
  wrote = wrote;
}

-- the request could not be made
pub asks_none : (asked : Asked) (l : Line) (s : SourceState) (o : SinkState) → IsHeard l → IsSendable asked → Asks (Err NoMemory) asked l s s o o
asks_none asked l s o h short =
    let has = has_call asked (call_id (binds l)) short in
    record {
      whole = tt;
      stopped = stops_here asked l s o o has.call h has.is_call (has.call, wrote_start has.call o);
      read_fault = refl;
      write_fault = refl;
      few = took_none l s h;
      unread = λ one. refl;
    }

-- the request could not be written
pub asks_unsent : (fault : CallFault) (asked : Asked) (l : Line) (s : SourceState) (o o' : SinkState) (call : List ℕ) → IsHeard l → call_bytes (call_id (binds l)) asked ≡ Some call
    → Sends (Err fault) call o o' → Asks (Err fault) asked l s s o o'
asks_unsent fault asked l s o o' call h is sends =
    let made : Asks (Err WriteFault) asked l s s o o' = record {
      whole = tt;
      stopped = stops_here asked l s o o' call h is sends.1;
      read_fault = refl;
      write_fault = sends.2;
      few = took_none l s h;
      unread = λ one. refl;
    } in
    subst (λ (f : CallFault). Asks (Err f) asked l s s o o') (sym sends.0) made

-- ---- a oneway call awaits nothing

called_oneway : (operation : OperationView) (answers : List Answer) (end : ReadEnd) → operation.oneway ≡ true → called operation answers end ≡ Ok []
called_oneway operation answers end is = ap (λ (b : Bool). if b then giving [] else first_meaning operation answers end) is

called_twoway : (operation : OperationView) (answers : List Answer) (end : ReadEnd) → operation.oneway ≡ false → called operation answers end ≡ first_meaning operation answers end
called_twoway operation answers end is = ap (λ (b : Bool). if b then giving [] else first_meaning operation answers end) is

pub asks_oneway : (values : List Value) (asked : Asked) (l : Line) (s : SourceState) (o o' : SinkState) (call : List ℕ) → IsHeard l → call_bytes (call_id (binds l)) asked ≡ Some call
    → WroteText call o o' → o'.faults ≡ o.faults → asked.operation.oneway ≡ true → values ≡ [] → Asks (Ok values) asked l s s o o'
asks_oneway values asked l s o o' call h is wrote same oneway none =
    let end : ReadEnd = read_end l.ending (length (fed l ++ [])) false (stream MAX_MESSAGE (fed l ++ [])).rest in
    record {
      whole = record {
        piece = [];
        ended = false;
        later = l.waiting;
        end = end;
        stream = record { ending = l.ending; heard = heard_here l h; comes = refl };
        gave = gave_start s;
        met = refl;
        call = call;
        is_call = is;
        wrote = wrote;
        outcome_is = ap giving none ∙ sym (called_oneway asked.operation l.waiting end oneway);
      };
      stopped = tt;
      read_fault = refl;
      write_fault = same;
      few = took_none l s h;
      unread = λ one. refl;
    }

-- ---- the reply didn't come

wrote_front : (bytes : List ℕ) (o o' : SinkState) → WroteText bytes o o' → WroteFrontOf bytes o o'
wrote_front bytes o o' wrote = ([], record { front = bytes; parts = sym (append-nil bytes); wrote = wrote })

not_both : {P : Type 0} (b : Bool) → b ≡ true → b ≡ false → P
not_both b is isnt = absurd (cc)

asks_lacks : (asked : Asked) (l : Line) (s s' : SourceState) (o o' : SinkState) (call : List ℕ) → call_bytes (call_id (binds l)) asked ≡ Some call → WroteText call o o' → o'.faults ≡ o.faults
    → asked.operation.oneway ≡ false → LacksMemory l s s' → Asks (Err NoMemory) asked l s s' o o'
asks_lacks asked l s s' o o' call is wrote same twoway m = record {
  whole = tt;
  stopped = record {
    piece = m.piece;
    last = m.last;
    later = [];
    ending = m.ending;
    heard = subst (λ (xs : List Answer). SaysSo l (fed l ++ m.piece) xs m.ending) (sym (append-nil l.given)) m.heard;
    gave = m.took.gave;
    call = call;
    is_call = is;
    wrote = wrote_front call o o' wrote;
  };
  read_fault = m.took.no_fault;
  write_fault = same;
  few = record { piece = m.piece ++ m.last; few = omega (arith, m.few, ap length (append_assoc (fed l) m.piece m.last)); gave = m.took.gave };
  unread = λ one. not_both asked.operation.oneway one twoway;
}

asks_over : (end : ReadEnd) (asked : Asked) (l : Line) (s s' : SourceState) (o o' : SinkState) (call : List ℕ) → call_bytes (call_id (binds l)) asked ≡ Some call → WroteText call o o'
    → o'.faults ≡ o.faults → asked.operation.oneway ≡ false → IsOver l end s s' → Asks (Err (came_by end)) asked l s s' o o'
asks_over end asked l s s' o o' call is wrote same twoway m =
    let comes : Comes (Err (came_by end)) asked l s s' o o' = record {
      piece = m.piece;
      ended = m.ended;
      later = [];
      end = end;
      stream = subst (λ (xs : List Answer). HearsStream (means (binds l)) (first (binds l)) (fed l ++ m.piece) m.ended xs end) (sym (append-nil l.given)) m.stream;
      gave = m.gave;
      met = m.met;
      call = call;
      is_call = is;
      wrote = wrote;
      outcome_is = sym (called_twoway asked.operation [] end twoway);
    } in
    record {
      whole = whole_of (Err (came_by end)) (Comes (Err (came_by end)) asked l s s' o o') comes;
      stopped = came_unbroken end (Stops asked l s s' o o');
      read_fault = came_reads end s s' m.counts;
      write_fault = came_writes end o o' same;
      few = record { piece = m.piece; few = m.few; gave = m.gave };
      unread = λ one. not_both asked.operation.oneway one twoway;
    }

missed_by : (fault : CallFault) (asked : Asked) (l l' : Line) (s s' : SourceState) (o o' : SinkState) (call : List ℕ) → call_bytes (call_id (binds l)) asked ≡ Some call → WroteText call o o'
    → o'.faults ≡ o.faults → asked.operation.oneway ≡ false
    → ((fault ≡ NoMemory) × LacksMemory l s s') ⊎ ((end : ReadEnd) × (fault ≡ came_by end) × IsOver l end s s') → Asks (Err fault) asked l s s' o o'
missed_by fault asked l l' s s' o o' call is wrote same twoway (inl p) =
    subst (λ (f : CallFault). Asks (Err f) asked l s s' o o') (sym p.0) (asks_lacks asked l s s' o o' call is wrote same twoway p.1)
missed_by fault asked l l' s s' o o' call is wrote same twoway (inr p) =
    subst (λ (f : CallFault). Asks (Err f) asked l s s' o o') (sym p.1) (asks_over p.0 asked l s s' o o' call is wrote same twoway p.2)

pub asks_missed : (fault : CallFault) (asked : Asked) (l l' : Line) (s s' : SourceState) (o o' : SinkState) (call : List ℕ) → call_bytes (call_id (binds l)) asked ≡ Some call → WroteText call o o'
    → o'.faults ≡ o.faults → asked.operation.oneway ≡ false → Awaits (Err fault) l l' s s' → Asks (Err fault) asked l s s' o o'
asks_missed fault asked l l' s s' o o' call is wrote same twoway h = missed_by fault asked l l' s s' o o' call is wrote same twoway h

-- ---- the reply came

pub given_out : (l l' : Line) (a : Answer) (s s' : SourceState) (g : GivesOut l l' a s s') → SaysSo l (fed l ++ g.piece) (l.given ++ (a ∷ l'.waiting)) l'.ending
given_out l l' a s s' g =
    let all : l'.given ++ l'.waiting ≡ l.given ++ (a ∷ l'.waiting) = ap (λ (xs : List Answer). xs ++ l'.waiting) g.given_is ∙ append_assoc l.given (a ∷ []) l'.waiting in
    subst (λ (b : Bool). HeardBy (means b) (first b) (fed l ++ g.piece) (l.given ++ (a ∷ l'.waiting)) l'.ending) g.same
    (subst (λ (bytes : List ℕ). SaysSo l' bytes (l.given ++ (a ∷ l'.waiting)) l'.ending) g.fed_is
    (subst (λ (xs : List Answer). SaysSo l' (fed l') xs l'.ending) all g.heard.heard))

pub few_out : (l l' : Line) (a : Answer) (s s' : SourceState) (g : GivesOut l l' a s s') → length (fed l ++ g.piece) ≤ MAX_TAKEN
few_out l l' a s s' g = omega (arith, g.heard.count_is, g.heard.few, ap length g.fed_is)

answered_lacks : (a : Answer) (asked : Asked) (l l' : Line) (s s' : SourceState) (o o' : SinkState) (call : List ℕ) → call_bytes (call_id (binds l)) asked ≡ Some call → WroteText call o o'
    → o'.faults ≡ o.faults → asked.operation.oneway ≡ false → GivesOut l l' a s s' → Asks (Err NoMemory) asked l s s' o o'
answered_lacks a asked l l' s s' o o' call is wrote same twoway g =
    let nothing : g.piece ++ [] ≡ g.piece = append-nil g.piece in
    record {
      whole = tt;
      stopped = record {
        piece = g.piece;
        last = [];
        later = a ∷ l'.waiting;
        ending = l'.ending;
        heard = given_out l l' a s s' g;
        gave = subst (λ (b : List ℕ). Gave b s s') (sym nothing) g.took.gave;
        call = call;
        is_call = is;
        wrote = wrote_front call o o' wrote;
      };
      read_fault = g.took.no_fault;
      write_fault = same;
      few = record { piece = g.piece; few = few_out l l' a s s' g; gave = g.took.gave };
      unread = λ one. not_both asked.operation.oneway one twoway;
    }

answered_so : (outcome : Outcome) (a : Answer) (asked : Asked) (l l' : Line) (s s' : SourceState) (o o' : SinkState) (call : List ℕ) → call_bytes (call_id (binds l)) asked ≡ Some call
    → WroteText call o o' → o'.faults ≡ o.faults → asked.operation.oneway ≡ false → GivesOut l l' a s s' → outcome ≡ meaning_of asked.operation a → Asks outcome asked l s s' o o'
answered_so outcome a asked l l' s s' o o' call is wrote same twoway g meant =
    let h : IsPlain outcome = subst (λ (x : Outcome). IsPlain x) (sym meant) (plain asked.operation a) in
    let end : ReadEnd = read_end l'.ending (length (fed l ++ g.piece)) false (stream MAX_MESSAGE (fed l ++ g.piece)).rest in
    let comes : Comes outcome asked l s s' o o' = record {
      piece = g.piece;
      ended = false;
      later = a ∷ l'.waiting;
      end = end;
      stream = record { ending = l'.ending; heard = given_out l l' a s s' g; comes = refl };
      gave = g.took.gave;
      met = g.took.no_end;
      call = call;
      is_call = is;
      wrote = wrote;
      outcome_is = meant ∙ sym (called_twoway asked.operation (a ∷ l'.waiting) end twoway);
    } in
    record {
      whole = whole_of outcome (Comes outcome asked l s s' o o') comes;
      stopped = plain_unbroken outcome (Stops asked l s s' o o') h;
      read_fault = plain_reads outcome s s' h g.took.no_fault;
      write_fault = plain_writes outcome o o' h same;
      few = record { piece = g.piece; few = few_out l l' a s s' g; gave = g.took.gave };
      unread = λ one. not_both asked.operation.oneway one twoway;
    }

answered_by : (outcome : Outcome) (a : Answer) (asked : Asked) (l l' : Line) (s s' : SourceState) (o o' : SinkState) (call : List ℕ) → call_bytes (call_id (binds l)) asked ≡ Some call
    → WroteText call o o' → o'.faults ≡ o.faults → asked.operation.oneway ≡ false → GivesOut l l' a s s'
    → (outcome ≡ Err NoMemory) ⊎ (outcome ≡ meaning_of asked.operation a) → Asks outcome asked l s s' o o'
answered_by outcome a asked l l' s s' o o' call is wrote same twoway g (inl e) =
    subst (λ (x : Outcome). Asks x asked l s s' o o') (sym e) (answered_lacks a asked l l' s s' o o' call is wrote same twoway g)
answered_by outcome a asked l l' s s' o o' call is wrote same twoway g (inr e) = answered_so outcome a asked l l' s s' o o' call is wrote same twoway g e

pub asks_answered : (outcome : Outcome) (a : Answer) (asked : Asked) (l l' : Line) (s s' : SourceState) (o o' : SinkState) (call : List ℕ) → call_bytes (call_id (binds l)) asked ≡ Some call
    → WroteText call o o' → o'.faults ≡ o.faults → asked.operation.oneway ≡ false → GivesOut l l' a s s' → Means outcome (meaning_of asked.operation a) → Asks outcome asked l s s' o o'
asks_answered outcome a asked l l' s s' o o' call is wrote same twoway g meant =
    answered_by outcome a asked l l' s s' o o' call is wrote same twoway g (memory_or outcome (meaning_of asked.operation a) meant)
