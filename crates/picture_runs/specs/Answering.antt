-- What `orb_picture` answers, and what it writes. Own profile.
use Rattle.std.specs.Prelude.{◌≡◌, ◌≤◌, ◌⊎◌, ℕ, Bool, true, false, List, [], length, Option, Some, None, Result, Ok, Err}
use Rattle.orb_base.specs.Outside.{SourceState, SinkState, Rose}
use Rattle.text_streams.specs.Streams.{Gave, MeetsEnd, WroteText, WroteFrontOf}
use Rattle.trace_reading.specs.Faults.{FaultAt}
use Rattle.trace_reading.specs.Traces.{Trace}
use Rattle.trace_runs.specs.Reading.{IsSound}
use Rattle.trace_audit.specs.declared.input.TheConstants.{MAX_AUDITED}
use Rattle.picture_runs.specs.Inputs.{HasRun, HasNoRun}
use Rattle.picture_runs.specs.Drawing.{IsDrawn, run_of}
use Rattle.picture_runs.specs.declared.asked.Asked.{Asked}
use Rattle.orb_base.specs.declared.no_memory.NoMemory.{NoMemory}
use Rattle.picture_runs.specs.declared.found.Found.{Found}
use Rattle.picture_runs.specs.declared.found.Found.TheVariants as found
use Rattle.picture_runs.specs.declared.note.Note.{Note}
use Rattle.picture_runs.specs.declared.note.Note.TheVariants as note

-- the status of each note
abbrev pub status_of : Note → ℕ
status_of note.Nothing = 0
status_of note.Usage = 1
status_of note.ReadFault = 3
status_of note.WriteFault = 4
status_of (note.Trace at) = 8
status_of (note.Absent run) = 10
status_of note.Memory = 12
status_of note.Limit = 13

-- all of what is asked for of a run was written
pub record WroteAll (asked : Asked) (run : Trace) (out out' : SinkState) : Type 0 where
  pub text : List ℕ
  pub drawn : IsDrawn run asked text
  pub wrote : WroteText text out out'
  pub faults : out'.faults ≡ out.faults

-- a prefix of it was, up to a fault
pub record WroteFront (asked : Asked) (run : Trace) (out out' : SinkState) : Type 0 where
  pub text : List ℕ
  pub drawn : IsDrawn run asked text
  pub wrote : WroteFrontOf text out out'
  pub faults : Rose out.faults out'.faults

-- the bytes are runs, and so it was of the one that is asked for
pub record Wrote (asked : Asked) (bytes : List ℕ) (out out' : SinkState) : Type 0 where
  pub run : Trace
  pub has : HasRun bytes (run_of asked) run
  pub all : WroteAll asked run out out'

-- the same, and what was written is a prefix of it
pub record FellShort (asked : Asked) (bytes : List ℕ) (out out' : SinkState) : Type 0 where
  pub run : Trace
  pub has : HasRun bytes (run_of asked) run
  pub front : WroteFront asked run out out'

-- what is asked for of a run was written, or a prefix of it, or nothing
abbrev pub Writes : Asked → Trace → Note → SinkState → SinkState → Type 0
Writes asked run note.Nothing out out' = WroteAll asked run out out'
Writes asked run note.WriteFault out out' = WroteFront asked run out out'
Writes asked run note.Memory out out' = out' ≡ out
Writes asked run n out out' = ⊥

-- what a note says of the bytes of an input that has ended, and of what was written
abbrev pub Shows : Asked → List ℕ → Note → SinkState → SinkState → Type 0
Shows asked bytes note.Nothing out out' = Wrote asked bytes out out'
Shows asked bytes note.WriteFault out out' = FellShort asked bytes out out'
Shows asked bytes (note.Absent run) out out' = (run ≡ run_of asked) × HasNoRun bytes run × (out' ≡ out)
Shows asked bytes (note.Trace at) out out' = FaultAt bytes true at × (out' ≡ out)
Shows asked bytes note.Memory out out' = out' ≡ out
Shows asked bytes n out out' = ⊥

-- where a whole line is at fault
abbrev pub whole_line_at_fault : Found → Option ℕ
whole_line_at_fault (found.AtFault at) = Some at
whole_line_at_fault (found.Lacking at) = None
whole_line_at_fault (found.Run run) = None
whole_line_at_fault found.Absent = None

-- what is said of an input of which no end was met, by its first line at fault or else by this cause
abbrev pub note_of : Result (Option ℕ) NoMemory → Note → Note
note_of (Ok (Some at)) cause = note.Trace at
note_of (Ok None) cause = cause
note_of (Err _) cause = note.Memory

-- what a note says of the bytes of an input that has ended, or of which no end was met, and of what was written
abbrev pub Says : Asked → Note → List ℕ → Bool → SinkState → SinkState → Type 0
Says asked note.Nothing bytes ended out out' = (ended ≡ true) × Wrote asked bytes out out'
Says asked note.WriteFault bytes ended out out' = (ended ≡ true) × FellShort asked bytes out out'
Says asked (note.Absent run) bytes ended out out' = (ended ≡ true) × (run ≡ run_of asked) × HasNoRun bytes run × (out' ≡ out)
Says asked (note.Trace at) bytes ended out out' = FaultAt bytes ended at × (out' ≡ out)
Says asked note.ReadFault bytes ended out out' = (ended ≡ false) × IsSound bytes × (out' ≡ out)
Says asked note.Limit bytes ended out out' = (ended ≡ false) × (length bytes ≡ MAX_AUDITED) × IsSound bytes × (out' ≡ out)
Says asked note.Memory bytes ended out out' = out' ≡ out
Says asked note.Usage bytes ended out out' = ⊥

-- the count of failed reads rose, where that is the note, and where it rose no end was met; out of memory it rose only where bytes had
-- come before: memory is asked for bytes alone, and of an input that fails at once a read fault is said
abbrev pub ReadsTill : Note → List ℕ → Bool → SourceState → SourceState → Type 0
ReadsTill note.Nothing bytes ended old new = new.faults ≡ old.faults
ReadsTill note.WriteFault bytes ended old new = new.faults ≡ old.faults
ReadsTill note.Limit bytes ended old new = new.faults ≡ old.faults
ReadsTill note.ReadFault bytes ended old new = Rose old.faults new.faults
ReadsTill note.Memory bytes ended old new = ((bytes ≡ []) ⊎ (ended ≡ true)) → new.faults ≡ old.faults
ReadsTill note bytes ended old new = ended ≡ true → new.faults ≡ old.faults

-- some bytes of the input were taken, and the note says what they are and what was written; out of memory nothing was
pub record Answers (asked : Asked) (note : Note) (old new : SourceState) (out out' : SinkState) : Type 0 where
  pub bytes : List ℕ
  pub ended : Bool
  pub gave : Gave bytes old new
  pub few : length bytes ≤ MAX_AUDITED
  pub met : MeetsEnd ended old new
  pub reads : ReadsTill note bytes ended old new
  pub says : Says asked note bytes ended out out'

-- words that ask for nothing touch neither the input nor the output
abbrev pub AnswersWords : Option Asked → Note → SourceState → SourceState → SinkState → SinkState → Type 0
AnswersWords (Some asked) n old new out out' = Answers asked n old new out out'
AnswersWords None n old new out out' = ((n ≡ note.Usage) ⊎ (n ≡ note.Memory)) × (new ≡ old) × (out' ≡ out)
