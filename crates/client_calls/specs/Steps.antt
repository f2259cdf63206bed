-- What the steps of a call come to.
use Rattle.std.specs.Prelude.{◌≡◌, ◌≤◌, ◌⊎◌, ℕ, Bool, true, List, ◌++◌, length, Option, Some, Result, Ok, Err}
use Rattle.orb_base.specs.Outside.{SourceState, SinkState, Rose}
use Rattle.orb_base.specs.Span.{Span}
use Rattle.heard_messages.specs.Hearing.{HeardBy}
use Rattle.heard_messages.specs.Inputs.{HearsStream}
use Rattle.heard_messages.specs.declared.read_end.ReadEnd.{ReadEnd}
use Rattle.heard_messages.specs.declared.read_end.TheConstants.{MAX_TAKEN}
use Rattle.text_streams.specs.Streams.{Gave, MeetsEnd, WroteText, WroteFrontOf}
use Rattle.client_lines.specs.Answer.{Answer}
use Rattle.client_lines.specs.Awaiting.{first, means, call_id}
use Rattle.client_lines.specs.Lines.{Line, fed, binds, GivesOut, IsOver, LacksMemory}
use Rattle.client_lines.specs.declared.awaited.TheConstants.{BIND_ID}
use Rattle.client_stub.specs.Asking.{Asked}
use Rattle.client_stub.specs.Sending.{call_bytes, bind_bytes}
use Rattle.client_calls.specs.Calls.{IfWhole, IfBrokenOff, CountsReads, CountsWrites, Calls}
use Rattle.client_calls.specs.Exchanges.{came_by, called}
use Rattle.client_calls.specs.Replies.{Outcome}
use Rattle.client_calls.specs.declared.call_fault.CallFault.{CallFault}
use Rattle.client_calls.specs.declared.call_fault.CallFault.TheVariants.{WriteFault, NoMemory}

-- all of a request was written, or a prefix of it up to a fault
abbrev pub Sends : Result (Unit {0}) CallFault → List ℕ → SinkState → SinkState → Type 0
Sends (Ok _) request out out' = WroteText request out out' × (out'.faults ≡ out.faults)
Sends (Err fault) request out out' = (fault ≡ WriteFault) × WroteFrontOf request out out' × Rose out.faults out'.faults

-- the next answer was given out, or the reading came out somehow
abbrev pub Awaits : Result Answer CallFault → Line → Line → SourceState → SourceState → Type 0
Awaits (Ok answer) l l' old new = GivesOut l l' answer old new
Awaits (Err fault) l l' old new =
    ((fault ≡ NoMemory) × LacksMemory l old new) ⊎ ((end : ReadEnd) × (fault ≡ came_by end) × IsOver l end old new)

-- after what a line gave out, all of the call was sent, and it came to what the connection and its end say
pub record Comes (outcome : Outcome) (asked : Asked) (l : Line) (old new : SourceState) (out out' : SinkState) : Type 0 where
  pub piece : List ℕ
  pub ended : Bool
  pub later : List Answer
  pub end : ReadEnd
  pub stream : HearsStream (means (binds l)) (first (binds l)) (fed l ++ piece) ended (l.given ++ later) end
  pub gave : Gave piece old new
  pub met : MeetsEnd ended old new
  pub call : List ℕ
  pub is_call : call_bytes (call_id (binds l)) asked ≡ Some call
  pub wrote : WroteText call out out'
  pub outcome_is : outcome ≡ called asked.operation later end

-- after what a line gave out, the call was broken off: a prefix of it was sent
pub record Stops (asked : Asked) (l : Line) (old new : SourceState) (out out' : SinkState) : Type 0 where
  pub piece : List ℕ
  pub last : List ℕ
  pub later : List Answer
  pub ending : Option ReadEnd
  pub heard : HeardBy (means (binds l)) (first (binds l)) (fed l ++ piece) (l.given ++ later) ending
  pub gave : Gave (piece ++ last) old new
  pub call : List ℕ
  pub is_call : call_bytes (call_id (binds l)) asked ≡ Some call
  pub wrote : WroteFrontOf call out out'

-- at most so many bytes were taken, with those that a line was fed
pub record TookFew (l : Line) (old new : SourceState) : Type 0 where
  pub piece : List ℕ
  pub few : length (fed l ++ piece) ≤ MAX_TAKEN
  pub gave : Gave piece old new

-- the call after what a line gave out
pub record Asks (outcome : Outcome) (asked : Asked) (l : Line) (old new : SourceState) (out out' : SinkState) : Type 0 where
  pub whole : IfWhole outcome (Comes outcome asked l old new out out')
  pub stopped : IfBrokenOff outcome (Stops asked l old new out out')
  pub read_fault : CountsReads outcome old new
  pub write_fault : CountsWrites outcome out out'
  pub few : TookFew l old new
  pub unread : asked.operation.oneway ≡ true → new ≡ old

-- all of the bind of a band was sent, and its answer given out; or the call came to its end with it
abbrev pub Binds : Result Answer CallFault → Asked → Line → Line → SourceState → SourceState → SinkState → SinkState → Type 0
Binds (Ok answer) asked l l' old new out out' =
    GivesOut l l' answer old new
    × ((band : Span) → asked.band ≡ Some band → WroteText (bind_bytes BIND_ID asked band) out out') × (out'.faults ≡ out.faults)
Binds (Err fault) asked l l' old new out out' = Calls (Err fault) asked old new out out'
