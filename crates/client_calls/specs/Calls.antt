-- What a call over a source and a sink has to do with its exchange.
use Rattle.std.specs.Prelude.{◌≡◌, ℕ, Bool, true, List, ◌++◌, Option, Some, None, Err}
use Rattle.orb_base.specs.Outside.{SourceState, SinkState, Rose}
use Rattle.heard_messages.specs.declared.read_end.ReadEnd.{ReadEnd}
use Rattle.heard_messages.specs.declared.read_end.TheConstants.{MAX_TAKEN}
use Rattle.text_streams.specs.Streams.{Gave, GaveFew, MeetsEnd, WroteText, WroteFrontOf}
use Rattle.client_lines.specs.Answer.{Answer}
use Rattle.client_stub.specs.Asking.{Asked}
use Rattle.client_calls.specs.Exchanges.{due, HeardSo, Exchange}
use Rattle.client_calls.specs.Replies.{Outcome}
use Rattle.client_calls.specs.declared.call_fault.CallFault.TheVariants.{WriteFault, ReadFault, NoMemory}

-- unless the call was broken off, by a failed write or out of memory
abbrev pub IfWhole : Outcome → Type 0 → Type 0
IfWhole (Err WriteFault) fact = Unit {0}
IfWhole (Err NoMemory) fact = Unit {0}
IfWhole _ fact = fact

-- where the call was broken off
abbrev pub IfBrokenOff : Outcome → Type 0 → Type 0
IfBrokenOff (Err WriteFault) fact = fact
IfBrokenOff (Err NoMemory) fact = fact
IfBrokenOff _ fact = Unit {0}

-- the call came to what its exchange gives: these bytes were taken, the end was met or not, and all that is due was sent
pub record Exchanged (outcome : Outcome) (asked : Asked) (old new : SourceState) (out out' : SinkState) : Type 0 where
  pub sent : List ℕ
  pub got : List ℕ
  pub ended : Bool
  pub exchange : Exchange asked sent got ended outcome
  pub gave : Gave got old new
  pub met : MeetsEnd ended old new
  pub wrote : WroteText sent out out'

-- a prefix was sent of what is due after the answers that were heard: those of a prefix of the bytes that were taken
pub record SentPrefix (asked : Asked) (old new : SourceState) (out out' : SinkState) : Type 0 where
  pub bytes : List ℕ
  pub last : List ℕ
  pub answers : List Answer
  pub ending : Option ReadEnd
  pub heard : HeardSo asked bytes answers ending
  pub gave : Gave (bytes ++ last) old new
  pub sent : List ℕ
  pub is_due : due asked answers ≡ Some sent
  pub wrote : WroteFrontOf sent out out'

-- a read fault comes only where a read failed, and else none did
abbrev pub CountsReads : Outcome → SourceState → SourceState → Type 0
CountsReads (Err ReadFault) old new = Rose old.faults new.faults
CountsReads _ old new = new.faults ≡ old.faults

-- a write fault comes only where a write failed, and else none did
abbrev pub CountsWrites : Outcome → SinkState → SinkState → Type 0
CountsWrites (Err WriteFault) old new = Rose old.faults new.faults
CountsWrites _ old new = new.faults ≡ old.faults

-- all of that
pub record Calls (outcome : Outcome) (asked : Asked) (old new : SourceState) (out out' : SinkState) : Type 0 where
  pub exchange : IfWhole outcome (Exchanged outcome asked old new out out')
  pub prefix : IfBrokenOff outcome (SentPrefix asked old new out out')
  pub read_fault : CountsReads outcome old new
  pub write_fault : CountsWrites outcome out out'
  pub few : GaveFew MAX_TAKEN old new
  pub unread : asked.operation.oneway ≡ true → asked.band ≡ None → new ≡ old
