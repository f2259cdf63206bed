-- What an audit answers and writes.
use Rattle.std.specs.Prelude.{◌≡◌, ◌≤◌, ℕ, Bool, true, false, List, length, Option, Some, None, Result, Ok, Err}
use Rattle.orb_base.specs.Outside.{SourceState, SinkState, Rose}
use Rattle.orb_base.specs.Room.{Room}
use Rattle.orb_base.specs.declared.no_memory.NoMemory.{NoMemory}
use Rattle.text_streams.specs.Streams.{Gave, MeetsEnd, WroteText, WroteFrontOf}
use Rattle.trace_reading.specs.Faults.{FaultAt}
use Rattle.trace_runs.specs.Reading.{IsSound}
use Rattle.trace_audit.specs.Inputs.{AreJudged}
use Rattle.trace_audit.specs.Lines.{audit_lines, first_wrong_entry}
use Rattle.trace_audit.specs.declared.audit_end.AuditEnd.{AuditEnd}
use Rattle.trace_audit.specs.declared.audit_end.AuditEnd.TheVariants as end
use Rattle.trace_audit.specs.declared.audit_end.AuditFault.{AuditFault}
use Rattle.trace_audit.specs.declared.audit_end.AuditFault.TheVariants as fault
use Rattle.trace_audit.specs.declared.input.TheConstants.{MAX_AUDITED}
use Rattle.trace_audit.specs.declared.judged.Judged.{Judged}
use Rattle.trace_audit.specs.declared.judged.Judged.TheVariants as judged
use Rattle.trace_audit.specs.declared.verdict.Verdict.{Verdict}

-- what is said of the bytes of an input that has ended, or of which no end was met: verdicts only of one that has, its first line at
-- fault, or that no whole line is
abbrev pub Says : Result (Room Verdict) AuditFault → List ℕ → Bool → Type 0
Says (Ok vs) bytes ended = (ended ≡ true) × AreJudged bytes vs.items
Says (Err (fault.NotTrace at)) bytes ended = FaultAt bytes ended at
Says (Err fault.ReadFault) bytes ended = (ended ≡ false) × IsSound bytes
Says (Err fault.Spent) bytes ended = (ended ≡ false) × (length bytes ≡ MAX_AUDITED) × IsSound bytes
Says (Err fault.NoMemory) bytes ended = Unit {0}

-- the first line at fault of an input of which no end was met, or no whole line is at fault
abbrev pub IsFaultInPart : List ℕ → Option ℕ → Type 0
IsFaultInPart bytes (Some at) = FaultAt bytes false at
IsFaultInPart bytes None = IsSound bytes

-- where a whole line is at fault
abbrev pub whole_line_at_fault : Judged → Option ℕ
whole_line_at_fault (judged.AtFault at) = Some at
whole_line_at_fault (judged.Lacking at) = None
whole_line_at_fault (judged.Runs vs) = None

-- why an input has no verdicts of which no end was met, by its first line at fault or else by this cause
abbrev pub why_in_part : Result (Option ℕ) NoMemory → AuditFault → AuditFault
why_in_part (Ok (Some at)) cause = fault.NotTrace at
why_in_part (Ok None) cause = cause
why_in_part (Err _) cause = fault.NoMemory

-- the count of failed reads rose, where that is the answer, and where it rose no end was met
abbrev pub ReadsTill : Result (Room Verdict) AuditFault → Bool → SourceState → SourceState → Type 0
ReadsTill (Ok vs) ended old new = new.faults ≡ old.faults
ReadsTill (Err fault.ReadFault) ended old new = Rose old.faults new.faults
ReadsTill (Err fault.Spent) ended old new = new.faults ≡ old.faults
ReadsTill (Err e) ended old new = ended ≡ true → new.faults ≡ old.faults

-- an audit took some bytes, up to the end of the input or not, and answers what they say
pub record Audits (answer : Result (Room Verdict) AuditFault) (old new : SourceState) : Type 0 where
  pub bytes : List ℕ
  pub ended : Bool
  pub gave : Gave bytes old new
  pub few : length bytes ≤ MAX_AUDITED
  pub met : MeetsEnd ended old new
  pub reads : ReadsTill answer ended old new
  pub says : Says answer bytes ended

-- a line was written for each run, and the answer is the first wrong entry, or that there is none; at a failed write a prefix of the lines
-- was written, and out of memory nothing
abbrev pub Reports : Result AuditEnd NoMemory → List Verdict → SinkState → SinkState → Type 0
Reports (Ok end.Legal) vs out out' = (first_wrong_entry vs ≡ None) × WroteText (audit_lines vs) out out' × (out'.faults ≡ out.faults)
Reports (Ok (end.Wrong w)) vs out out' =
    (first_wrong_entry vs ≡ Some w) × WroteText (audit_lines vs) out out' × (out'.faults ≡ out.faults)
Reports (Ok end.WriteFault) vs out out' = WroteFrontOf (audit_lines vs) out out' × Rose out.faults out'.faults
Reports (Err _) vs out out' = out' ≡ out
Reports (Ok other) vs out out' = ⊥

-- what an audit ends with where there are no verdicts: nothing was written
abbrev pub Ends : AuditFault → Result AuditEnd NoMemory → Type 0
Ends (fault.NotTrace at) answer = answer ≡ Ok (end.NotTrace at)
Ends fault.ReadFault answer = answer ≡ Ok end.ReadFault
Ends fault.Spent answer = answer ≡ Ok end.Spent
Ends fault.NoMemory (Err _) = Unit {0}
Ends fault.NoMemory (Ok e) = ⊥

-- what comes of the answer of an audit
abbrev pub Comes : Result (Room Verdict) AuditFault → Result AuditEnd NoMemory → SinkState → SinkState → Type 0
Comes (Ok vs) answer out out' = Reports answer vs.items out out'
Comes (Err e) answer out out' = Ends e answer × (out' ≡ out)

-- an audit was made, and its lines were written
pub record AuditsRun (answer : Result AuditEnd NoMemory) (old new : SourceState) (out out' : SinkState) : Type 0 where
  pub said : Result (Room Verdict) AuditFault
  pub audits : Audits said old new
  pub comes : Comes said answer out out'
