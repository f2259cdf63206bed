-- The input of an audit, and what its bytes are.
use Rattle.std.specs.Prelude.{◌≡◌, ◌<◌, ℕ, true, false, List, length, Result, Ok, Err}
use Rattle.orb_base.specs.Outside.{SourceState, Rose}
use Rattle.orb_base.specs.declared.no_memory.NoMemory.{NoMemory}
use Rattle.text_streams.specs.Streams.{Gave, GaveFew, AtEnd}
use Rattle.trace_reading.specs.Faults.{FaultAt}
use Rattle.trace_reading.specs.Traces.{Trace, AreTraces}
use Rattle.trace_runs.specs.Reading.{IsSound}
use Rattle.trace_audit.specs.Verdicts.{AreVerdicts}
use Rattle.trace_audit.specs.declared.input.Input.{Input}
use Rattle.trace_audit.specs.declared.input.Input.TheVariants as input
use Rattle.trace_audit.specs.declared.input.TheConstants.{MAX_AUDITED}
use Rattle.trace_audit.specs.declared.judged.Judged.{Judged}
use Rattle.trace_audit.specs.declared.judged.Judged.TheVariants as judged
use Rattle.trace_audit.specs.declared.verdict.Verdict.{Verdict}

-- the bytes of an input were taken, up to its end, to a failed read, or to the limit; out of memory some were, and no read failed
abbrev pub TakesInput : Result Input NoMemory → SourceState → SourceState → Type 0
TakesInput (Ok (input.Whole bytes)) old new =
    (length bytes.items < MAX_AUDITED) × Gave bytes.items old new × AtEnd old new × (new.faults ≡ old.faults)
TakesInput (Ok (input.Full bytes)) old new =
    (length bytes.items ≡ MAX_AUDITED) × Gave bytes.items old new × (new.ends ≡ old.ends) × (new.faults ≡ old.faults)
TakesInput (Ok (input.Failed bytes)) old new =
    (length bytes.items < MAX_AUDITED) × Gave bytes.items old new × (new.ends ≡ old.ends) × Rose old.faults new.faults
TakesInput (Err _) old new = GaveFew MAX_AUDITED old new × (new.ends ≡ old.ends) × (new.faults ≡ old.faults)

-- these are the verdicts on the runs that the bytes are
pub record AreJudged (bytes : List ℕ) (vs : List Verdict) : Type 0 where
  pub runs : List Trace
  pub are : AreTraces bytes runs
  pub verdicts : AreVerdicts runs vs

-- what a text is: runs with their verdicts, or at fault in a whole line, or only in what isn't one
abbrev pub JudgesText : List ℕ → Judged → Type 0
JudgesText text (judged.Runs vs) = AreJudged text vs.items
JudgesText text (judged.Lacking at) = FaultAt text true at × IsSound text
JudgesText text (judged.AtFault at) = FaultAt text false at
