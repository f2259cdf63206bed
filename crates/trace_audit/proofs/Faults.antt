-- What is at fault in a part of an input, and in one that has ended.
use Rattle.std.proofs.Common.{◌≡◌, ℕ, ◌<◌, length, arith, true, false, List, [], Option, Some, None, refl, subst, ◌∙◌, append-nil}
use Rattle.std.specs.Prelude.{position, Result, Ok, Err, IfOk}
use Rattle.std.proofs.lemmas.Bool.{both_ways}
use Rattle.trace_reading.specs.Faults.{FaultAt, GoesWrong, is_feed}
use Rattle.trace_runs.specs.Reading.{IsSound}
use Rattle.trace_runs.proofs.FirstFaults.{is_sound}
use Rattle.orb_base.specs.Outside.{SourceState, Rose}
use Rattle.orb_base.specs.declared.no_memory.NoMemory.{NoMemory}
use Rattle.text_streams.specs.Streams.{Gave}
use Rattle.trace_audit.specs.Audit.{IsFaultInPart, whole_line_at_fault, why_in_part, ReadsTill, Says, Audits}
use Rattle.trace_audit.specs.Inputs.{AreJudged, JudgesText}
use Rattle.trace_audit.specs.declared.audit_end.AuditFault.TheVariants as fault
use Rattle.trace_audit.specs.declared.judged.Judged.{Judged}
use Rattle.trace_audit.specs.declared.judged.Judged.TheVariants as judged
use Rattle.trace_audit.specs.declared.input.TheConstants.{MAX_AUDITED}
use Rattle.trace_audit.specs.declared.verdict.Verdict.{Verdict}

-- a whole line at fault is so whatever comes after it
pub at_any_end : (bytes : List ℕ) (at : ℕ) → FaultAt bytes false at → FaultAt bytes true at
at_any_end bytes at f = record {
  before = f.before;
  after = f.after;
  parts = f.parts;
  place = f.place;
  lines = f.lines;
  begins = f.begins;
  wrong = wrong_so f.before f.after (position is_feed f.after) f.wrong;
}
  where
    wrong_so : (before after : List ℕ) (o : Option ℕ) → GoesWrong false before after o → GoesWrong true before after o
    wrong_so before after (Some n) wrong = wrong
    wrong_so before after None wrong = absurd (both_ways false refl wrong.0)

-- in runs no line is at fault
pub runs_are_sound : (bytes : List ℕ) (vs : List Verdict) → AreJudged bytes vs → IsSound bytes
runs_are_sound bytes vs h =
    subst IsSound (append-nil bytes)
    (is_sound bytes [] ([], h.runs, record { text = append-nil bytes ∙ h.are.text; each = h.are.each }) tt)

pub found_in_part : (bytes : List ℕ) (j : Judged) → JudgesText bytes j → IsFaultInPart bytes (whole_line_at_fault j)
found_in_part bytes (judged.AtFault at) h = h
found_in_part bytes (judged.Lacking at) h = h.1
found_in_part bytes (judged.Runs vs) h = runs_are_sound bytes vs.items h

-- what is answered of an input that was not read to its end

module _ (found : Result (Option ℕ) NoMemory) (bytes : List ℕ) (old new : SourceState) (is : IfOk found (IsFaultInPart bytes)) where
  pub full_says : length bytes ≡ MAX_AUDITED → Gave bytes old new → new.ends ≡ old.ends → new.faults ≡ old.faults → Audits (Err (why_in_part found fault.Spent)) old new
  full_says many gave ends faults = record {
    bytes = bytes;
    ended = false;
    gave = gave;
    few = omega (arith, many);
    met = ends;
    reads = reads found;
    says = says found is;
  }
    where
      reads : (r : Result (Option ℕ) NoMemory) → ReadsTill (Err (why_in_part r fault.Spent)) false old new
      reads (Ok (Some at)) = λ e. faults
      reads (Ok None) = faults
      reads (Err m) = λ e. faults

      says : (r : Result (Option ℕ) NoMemory) → IfOk r (IsFaultInPart bytes) → Says (Err (why_in_part r fault.Spent)) bytes false
      says (Ok (Some at)) h = h
      says (Ok None) h = (refl, many, h)
      says (Err m) h = tt

  pub failed_says : length bytes < MAX_AUDITED → Gave bytes old new → new.ends ≡ old.ends → Rose old.faults new.faults → Audits (Err (why_in_part found fault.ReadFault)) old new
  failed_says few gave ends rose = record {
    bytes = bytes;
    ended = false;
    gave = gave;
    few = omega (arith, few);
    met = ends;
    reads = reads found;
    says = says found is;
  }
    where
      reads : (r : Result (Option ℕ) NoMemory) → ReadsTill (Err (why_in_part r fault.ReadFault)) false old new
      reads (Ok (Some at)) = λ e. absurd (both_ways false refl e)
      reads (Ok None) = rose
      reads (Err m) = λ e. absurd (both_ways false refl e)

      says : (r : Result (Option ℕ) NoMemory) → IfOk r (IsFaultInPart bytes) → Says (Err (why_in_part r fault.ReadFault)) bytes false
      says (Ok (Some at)) h = h
      says (Ok None) h = (refl, h)
      says (Err m) h = tt
