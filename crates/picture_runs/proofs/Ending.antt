-- What is written, and what a note says then.
use Rattle.std.proofs.Common.{◌≡◌, ◌⊎◌, inl, inr, ℕ, ◌≤◌, ◌<◌, true, false, List, [], length, Option, Some, None, refl, ap, subst, ◌∙◌, arith, append-nil}
use Rattle.std.specs.Prelude.{Result, Ok, Err, IfOk, OnErr}
use Rattle.std.proofs.lemmas.Bool.{both_ways}
use Rattle.orb_base.specs.Outside.{SourceState, SinkState, Rose}
use Rattle.text_streams.specs.Streams.{Gave, GaveFew, AtEnd, WroteText, WroteFrontOf}
use Rattle.text_streams.proofs.CallerLemmas.{gave_none}
use Rattle.trace_reading.specs.Traces.{Trace, AreTraces}
use Rattle.trace_runs.specs.Reading.{IsSound}
use Rattle.trace_runs.proofs.FirstFaults.{is_sound}
use Rattle.trace_audit.specs.Audit.{IsFaultInPart}
use Rattle.orb_base.specs.declared.no_memory.NoMemory.{NoMemory}
use Rattle.picture_runs.specs.declared.found.Found.{Found}
use Rattle.picture_runs.specs.declared.found.Found.TheVariants as found
use Rattle.picture_runs.specs.Answering.{WroteAll, WroteFront, Writes, Shows, Says, ReadsTill, Answers, AnswersWords, whole_line_at_fault, note_of}
use Rattle.picture_runs.specs.Drawing.{IsDrawn, run_of}
use Rattle.picture_runs.specs.Inputs.{HasRun, Finds}
use Rattle.picture_runs.specs.declared.asked.Asked.{Asked}
use Rattle.trace_audit.specs.declared.input.TheConstants.{MAX_AUDITED}
use Rattle.picture_runs.specs.declared.note.Note.{Note}
use Rattle.picture_runs.specs.declared.note.Note.TheVariants as note
use Rattle.lane_audit.specs.Verdicts.{IsFirstWrong}
use Rattle.lane_machine.specs.State.{opening}
use Rattle.trace_lines.specs.ReadBack.{history_of}
use Rattle.picture_runs.specs.Drawing.{asked_text}

pub is_drawn : (t : Trace) (asked : Asked) (text : List ℕ) (legal : ℕ) → IsFirstWrong (opening t.pool t.slots t.per_slot) (history_of t.lines) legal
    → text ≡ asked_text t legal asked → IsDrawn t asked text
is_drawn t asked text legal first is = record { legal = legal; first = first; is = is }

pub wrote_all : (asked : Asked) (run : Trace) (text : List ℕ) (out out' : SinkState) → IsDrawn run asked text → WroteText text out out' → out'.faults ≡ out.faults
    → WroteAll asked run out out'
wrote_all asked run text out out' drawn wrote faults = record { text = text; drawn = drawn; wrote = wrote; faults = faults }

pub wrote_front : (asked : Asked) (run : Trace) (text : List ℕ) (out out' : SinkState) → IsDrawn run asked text → WroteFrontOf text out out' → Rose out.faults out'.faults
    → WroteFront asked run out out'
wrote_front asked run text out out' drawn wrote faults = record { text = text; drawn = drawn; wrote = wrote; faults = faults }

-- what was written of a run is so of the input that has it
pub shows_run : (asked : Asked) (bytes : List ℕ) (run : Trace) (n : Note) (out out' : SinkState) → HasRun bytes (run_of asked) run → Writes asked run n out out'
    → Shows asked bytes n out out'
shows_run asked bytes run note.Nothing out out' has w = record { run = run; has = has; all = w }
shows_run asked bytes run note.WriteFault out out' has w = record { run = run; has = has; front = w }
shows_run asked bytes run note.Memory out out' has w = w
shows_run asked bytes run note.Usage out out' has w = absurd w
shows_run asked bytes run note.ReadFault out out' has w = absurd w
shows_run asked bytes run (note.Trace at) out out' has w = absurd w
shows_run asked bytes run (note.Absent k) out out' has w = absurd w
shows_run asked bytes run note.Limit out out' has w = absurd w

-- an input that was read to its end
module _ (asked : Asked) (bytes : List ℕ) (old new : SourceState) (out out' : SinkState) (few : length bytes < MAX_AUDITED) (gave : Gave bytes old new) (met : AtEnd old new)
    (faults : new.faults ≡ old.faults) where
  taken : (n : Note) → ReadsTill n bytes true old new → Says asked n bytes true out out' → Answers asked n old new out out'
  taken n reads says = record { bytes = bytes; ended = true; gave = gave; few = omega arith; met = met; reads = reads; says = says }

  pub whole_answers : (n : Note) → Shows asked bytes n out out' → Answers asked n old new out out'
  whole_answers note.Nothing w = taken note.Nothing faults (refl, w)
  whole_answers note.WriteFault w = taken note.WriteFault faults (refl, w)
  whole_answers (note.Absent k) w = taken (note.Absent k) (λ e. faults) (refl, w.0, w.1, w.2)
  whole_answers (note.Trace at) w = taken (note.Trace at) (λ e. faults) w
  whole_answers note.Memory w = taken note.Memory (λ e. faults) w
  whole_answers note.Usage w = absurd w
  whole_answers note.ReadFault w = absurd w
  whole_answers note.Limit w = absurd w

-- in runs no line is at fault
runs_are_sound : (bytes : List ℕ) (runs : List Trace) → AreTraces bytes runs → IsSound bytes
runs_are_sound bytes runs are =
    subst IsSound (append-nil bytes) (is_sound bytes [] ([], runs, record { text = append-nil bytes ∙ are.text; each = are.each }) tt)

pub found_in_part : (bytes : List ℕ) (n : ℕ) (f : Found) → Finds bytes n f → IsFaultInPart bytes (whole_line_at_fault f)
found_in_part bytes n (found.AtFault at) h = h
found_in_part bytes n (found.Lacking at) h = h.1
found_in_part bytes n (found.Run run) h = runs_are_sound bytes h.0.runs h.0.are
found_in_part bytes n found.Absent h = runs_are_sound bytes h.runs h.are

-- an input of which no end was met
module _ (asked : Asked) (bytes : List ℕ) (old new : SourceState) (out : SinkState) (gave : Gave bytes old new) (ends : new.ends ≡ old.ends) where
  taken_part : (n : Note) → length bytes ≤ MAX_AUDITED → ReadsTill n bytes false old new → Says asked n bytes false out out → Answers asked n old new out out
  taken_part n few reads says = record { bytes = bytes; ended = false; gave = gave; few = few; met = ends; reads = reads; says = says }

  pub full_answers : (f : Result (Option ℕ) NoMemory) → IfOk f (IsFaultInPart bytes) → length bytes ≡ MAX_AUDITED → new.faults ≡ old.faults
      → Answers asked (note_of f note.Limit) old new out out
  full_answers (Ok (Some at)) is many faults = taken_part (note.Trace at) (omega (arith, many)) (λ e. faults) (is, refl)
  full_answers (Ok None) is many faults = taken_part note.Limit (omega (arith, many)) faults (refl, many, is, refl)
  full_answers (Err e) is many faults = taken_part note.Memory (omega (arith, many)) (λ e. faults) refl

  -- memory is asked for bytes alone
  no_bytes : 0 < length bytes → ((bytes ≡ []) ⊎ (false ≡ true)) → new.faults ≡ old.faults
  no_bytes some (inl none) = absurd (omega (arith, some, ap length none))
  no_bytes some (inr ended) = absurd (both_ways false refl ended)

  pub failed_answers : (f : Result (Option ℕ) NoMemory) → IfOk f (IsFaultInPart bytes) → OnErr f (0 < length bytes) → length bytes < MAX_AUDITED
      → Rose old.faults new.faults
      → Answers asked (note_of f note.ReadFault) old new out out
  failed_answers (Ok (Some at)) is some few rose = taken_part (note.Trace at) (omega arith) (λ e. absurd (both_ways false refl e)) (is, refl)
  failed_answers (Ok None) is some few rose = taken_part note.ReadFault (omega arith) rose (refl, is, refl)
  failed_answers (Err e) is some few rose = taken_part note.Memory (omega arith) (no_bytes some) refl

-- memory ran out for the input
pub unread_answers : (asked : Asked) (old new : SourceState) (out : SinkState) → GaveFew MAX_AUDITED old new → new.ends ≡ old.ends → new.faults ≡ old.faults
    → Answers asked note.Memory old new out out
unread_answers asked old new out gave ends faults =
    record { bytes = gave.bytes; ended = false; gave = gave.gave; few = gave.few; met = ends; reads = λ e. faults; says = refl }

-- memory ran out for the words
pub words_unread : (words : Option Asked) (old : SourceState) (out : SinkState) → AnswersWords words note.Memory old old out out
words_unread (Some asked) old out = unread_answers asked old old out (gave_none MAX_AUDITED old) refl refl
words_unread None old out = (inr refl, refl, refl)
