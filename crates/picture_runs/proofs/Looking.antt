-- One run after another, of which one is kept.
use Rattle.std.proofs.Common.{◌≡◌, ℕ, suc, zero, ◌+◌, ◌-◌, ◌<◌, ◌≤◌, ◌==◌, true, false, Bool, List, [], ◌∷◌, ◌++◌, length, drop, Option, Some, None, refl, sym, ap, subst, ◌∙◌, arith, append_assoc, append-nil}
use Rattle.std.specs.Prelude.{slice_get, if◌then◌else◌}
use Rattle.std.specs.List.{All, flat_map}
use Rattle.std.proofs.lemmas.Bool.{eqb-true, eq-eqb, both_ways}
use Rattle.std.proofs.lemmas.List.{drop_at, length-append}
use Rattle.std.proofs.lemmas.Option.{get_or_from_slice_get, slice_get_within}
use Rattle.std.proofs.lemmas.List.Concat.{flat_map-append}
use Rattle.std.proofs.lemmas.List.Elements.{All-nil, All-push}
use Rattle.trace_reading.specs.Faults.{FaultAt}
use Rattle.trace_reading.specs.Traces.{Trace, IsTrace, AreTraces, run_text}
use Rattle.trace_runs.specs.Reading.{HasNoSummary, BeginsWith, IsSound}
use Rattle.trace_runs.proofs.Afresh.{AreApart, faults_after, sounds_after, apart_more}
use Rattle.trace_audit.proofs.Runs.{shorter}
use Rattle.picture_runs.specs.Inputs.{Finds, found_of}
use Rattle.picture_runs.specs.declared.found.Found.{Found}

-- some runs were read, the one that is wanted is kept if it is among them, and this is the rest of the text
pub record LookedSoFar (text rest : List ℕ) (wanted n : ℕ) (kept : Option Trace) : Type 0 where
  pub runs : List Trace
  pub parts : text ≡ flat_map run_text runs ++ rest
  pub each : All IsTrace runs
  pub apart : AreApart runs rest
  pub count : n ≡ length runs
  pub which : kept ≡ slice_get runs wanted
  pub room : n + length rest ≤ length text

pub starts : (text : List ℕ) (wanted : ℕ) (kept : Option Trace) → kept ≡ None → LookedSoFar text text wanted 0 kept
starts text wanted kept e = record {
  runs = [];
  parts = refl;
  each = All-nil IsTrace;
  apart = tt;
  count = refl;
  which = e;
  room = omega arith;
}

-- which run is at a place, once one more was read
at_end : (runs : List Trace) (t : Trace) → Some t ≡ slice_get (runs ++ t ∷ []) (length runs)
at_end [] t = refl
at_end (r ∷ rs) t = at_end rs t

before_end : (runs : List Trace) (t : Trace) (wanted : ℕ) → (length runs ≡ wanted → ⊥) → slice_get runs wanted ≡ slice_get (runs ++ t ∷ []) wanted
before_end [] t zero other = absurd (other refl)
before_end [] t (suc k) other = refl
before_end (r ∷ rs) t zero other = refl
before_end (r ∷ rs) t (suc k) other = before_end rs t k (λ e. other (ap suc e))

which_by : (runs : List Trace) (t : Trace) (wanted : ℕ) (b : Bool) → (length runs == wanted) ≡ b
    → (if b then Some t else slice_get runs wanted) ≡ slice_get (runs ++ t ∷ []) wanted
which_by runs t wanted true e = at_end runs t ∙ ap (slice_get (runs ++ t ∷ [])) (eqb-true (length runs) wanted e)
which_by runs t wanted false e = before_end runs t wanted (λ same. both_ways (length runs == wanted) e (eq-eqb (length runs) wanted same))

one_which : (runs : List Trace) (t : Trace) (wanted : ℕ) → (if length runs == wanted then Some t else slice_get runs wanted) ≡ slice_get (runs ++ t ∷ []) wanted
one_which runs t wanted = which_by runs t wanted (length runs == wanted) refl

one_text : (ts : List Trace) (t : Trace) (after : List ℕ) → flat_map run_text ts ++ (run_text t ++ after) ≡ flat_map run_text (ts ++ t ∷ []) ++ after
one_text ts t after =
    sym (append_assoc (flat_map run_text ts) (run_text t) after)
    ∙ ap (λ (z : List ℕ). z ++ after) (ap (λ (z : List ℕ). flat_map run_text ts ++ z) (sym (append-nil (run_text t))) ∙ sym (flat_map-append run_text ts (t ∷ [])))

-- what comes after a run
rest_is : (rest after : List ℕ) (t : Trace) (len : ℕ) (b : BeginsWith rest t len) → after ≡ drop len rest → after ≡ b.after
rest_is rest after t len b e = e ∙ ap (drop len) b.parts ∙ drop_at (run_text t) b.after len (sym b.size)

pub one_more : (text rest after : List ℕ) (wanted n : ℕ) (kept kept' : Option Trace) (t : Trace) (len : ℕ) → LookedSoFar text rest wanted n kept → BeginsWith rest t len
    → kept' ≡ (if n == wanted then Some t else kept) → after ≡ drop len rest → LookedSoFar text after wanted (n + 1) kept'
one_more text rest after wanted n kept kept' t len h b keeps cut =
    let same : rest ≡ run_text t ++ after = b.parts ∙ ap (λ (z : List ℕ). run_text t ++ z) (sym (rest_is rest after t len b cut)) in
    record {
      runs = h.runs ++ t ∷ [];
      parts = h.parts ∙ ap (λ (z : List ℕ). flat_map run_text h.runs ++ z) same ∙ one_text h.runs t after;
      each = All-push IsTrace h.runs t h.each b.is;
      apart = apart_more h.runs t rest after same h.apart (subst (λ (z : List ℕ). t.summed ≡ false → HasNoSummary t.lines z) (sym (rest_is rest after t len b cut)) b.alone);
      count = let c = h.count in omega (arith, length-append h.runs (t ∷ []));
      which = keeps ∙ ap (λ (k : ℕ). if k == wanted then Some t else kept) h.count
          ∙ ap (λ (z : Option Trace). if length h.runs == wanted then Some t else z) h.which ∙ one_which h.runs t wanted;
      room = let r = h.room in let s = shorter rest after t len b cut in omega arith;
    }

-- where the rest is
place_of : (text rest : List ℕ) (wanted n : ℕ) (kept : Option Trace) (at : ℕ) (h : LookedSoFar text rest wanted n kept) → at ≡ length text - length rest
    → at ≡ length (flat_map run_text h.runs)
place_of text rest wanted n kept at h e = omega (arith, e, ap length h.parts, length-append (flat_map run_text h.runs) rest)

pub at_fault : (text rest : List ℕ) (wanted n : ℕ) (kept : Option Trace) (ended : Bool) (at m : ℕ) → LookedSoFar text rest wanted n kept → at ≡ length text - length rest
    → FaultAt rest ended m → FaultAt text ended (at + m)
at_fault text rest wanted n kept ended at m h e f =
    subst (λ (z : List ℕ). FaultAt z ended (at + m)) (sym h.parts)
    (subst (λ (k : ℕ). FaultAt (flat_map run_text h.runs ++ rest) ended (k + m)) (sym (place_of text rest wanted n kept at h e)) (faults_after h.runs rest ended m h.each h.apart f))

pub lacking : (text rest : List ℕ) (wanted n : ℕ) (kept : Option Trace) (at m : ℕ) → LookedSoFar text rest wanted n kept → at ≡ length text - length rest
    → FaultAt rest true m × IsSound rest → FaultAt text true (at + m) × IsSound text
lacking text rest wanted n kept at m h e both =
    (at_fault text rest wanted n kept true at m h e both.0, subst IsSound (sym h.parts) (sounds_after h.runs rest m h.each h.apart both.0 both.1))

-- what is at a place of runs is a run
is_run : (runs : List Trace) (n : ℕ) (t : Trace) → All IsTrace runs → Some t ≡ slice_get runs n → IsTrace t
is_run runs n t each e = subst IsTrace (get_or_from_slice_get runs n t t (sym e)) (each n t (slice_get_within runs n t (sym e)))

pub all_found : (text rest : List ℕ) (wanted n : ℕ) (kept : Option Trace) (o : Found) → LookedSoFar text rest wanted n kept → rest ≡ [] → o ≡ found_of kept → Finds text wanted o
all_found text rest wanted n kept o h none e = subst (Finds text wanted) (sym e) (by_kept kept h.which)
  where
    are : AreTraces text h.runs
    are = record { text = h.parts ∙ ap (λ (z : List ℕ). flat_map run_text h.runs ++ z) none ∙ append-nil (flat_map run_text h.runs); each = h.each }

    by_kept : (k : Option Trace) → k ≡ slice_get h.runs wanted → Finds text wanted (found_of k)
    by_kept (Some t) which = (record { runs = h.runs; are = are; which = which }, is_run h.runs wanted t h.each which)
    by_kept None which = record { runs = h.runs; are = are; none = which }

-- a rest that isn't empty is of a text that isn't
pub has_bytes : (text rest : List ℕ) (wanted n : ℕ) (kept : Option Trace) → LookedSoFar text rest wanted n kept → 0 < length rest → 0 < length text
has_bytes text rest wanted n kept h some = let r = h.room in omega (arith, r, some)
