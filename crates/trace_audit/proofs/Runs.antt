-- One run after another.
use Rattle.std.proofs.Common.{◌≡◌, ℕ, suc, get_or, ◌+◌, ◌-◌, ◌<◌, ◌≤◌, true, false, Bool, List, [], ◌∷◌, ◌++◌, length, drop, refl, sym, ap, subst, ◌∙◌, arith, append_assoc, append-nil}
use Rattle.std.specs.List.{All, flat_map}
use Rattle.std.proofs.lemmas.List.{drop_at, length-append}
use Rattle.std.proofs.lemmas.List.Concat.{flat_map-append}
use Rattle.std.proofs.lemmas.List.Elements.{All-nil, All-push}
use Rattle.trace_reading.specs.Faults.{FaultAt}
use Rattle.trace_reading.specs.Traces.{Trace, IsTrace, run_text}
use Rattle.trace_reading.proofs.Pieces.{Piece, piece_line, piece_text, run_pieces, run_printed}
use Rattle.trace_runs.specs.Reading.{HasNoSummary, BeginsWith, IsSound}
use Rattle.trace_runs.proofs.Afresh.{AreApart, faults_after, sounds_after, apart_more}
use Rattle.trace_audit.specs.Inputs.{AreJudged}
use Rattle.trace_audit.specs.Verdicts.{IsVerdict, AreVerdicts}
use Rattle.trace_audit.specs.declared.verdict.Verdict.{Verdict}

-- some runs were read and judged, and this is the rest of the text
pub record JudgedSoFar (text rest : List ℕ) (vs : List Verdict) : Type 0 where
  pub runs : List Trace
  pub parts : text ≡ flat_map run_text runs ++ rest
  pub each : All IsTrace runs
  pub apart : AreApart runs rest
  pub verdicts : AreVerdicts runs vs

pub starts : (text : List ℕ) (vs : List Verdict) → vs ≡ [] → JudgedSoFar text text vs
starts text vs e = record { runs = []; parts = refl; each = All-nil IsTrace; apart = tt; verdicts = subst (AreVerdicts []) (sym e) tt }

one_judged : (ts : List Trace) (vs : List Verdict) (t : Trace) (v : Verdict) → AreVerdicts ts vs → IsVerdict t v → AreVerdicts (ts ++ t ∷ []) (vs ++ v ∷ [])
one_judged [] [] t v h last = (last, tt)
one_judged [] (w ∷ ws) t v h last = absurd h
one_judged (u ∷ us) [] t v h last = absurd h
one_judged (u ∷ us) (w ∷ ws) t v h last = (h.0, one_judged us ws t v h.1 last)

one_text : (ts : List Trace) (t : Trace) (after : List ℕ) → flat_map run_text ts ++ (run_text t ++ after) ≡ flat_map run_text (ts ++ t ∷ []) ++ after
one_text ts t after =
    sym (append_assoc (flat_map run_text ts) (run_text t) after)
    ∙ ap (λ (z : List ℕ). z ++ after) (ap (λ (z : List ℕ). flat_map run_text ts ++ z) (sym (append-nil (run_text t))) ∙ sym (flat_map-append run_text ts (t ∷ [])))

-- what comes after a run
rest_is : (rest after : List ℕ) (t : Trace) (len : ℕ) (b : BeginsWith rest t len) → after ≡ drop len rest → after ≡ b.after
rest_is rest after t len b e = e ∙ ap (drop len) b.parts ∙ drop_at (run_text t) b.after len (sym b.size)

pub one_more : (text rest after : List ℕ) (vs vs' : List Verdict) (t : Trace) (len : ℕ) (v : Verdict) → JudgedSoFar text rest vs → BeginsWith rest t len → IsVerdict t v
    → vs' ≡ vs ++ v ∷ [] → after ≡ drop len rest → JudgedSoFar text after vs'
one_more text rest after vs vs' t len v h b is more cut =
    let same : rest ≡ run_text t ++ after = b.parts ∙ ap (λ (z : List ℕ). run_text t ++ z) (sym (rest_is rest after t len b cut)) in
    record {
      runs = h.runs ++ t ∷ [];
      parts = h.parts ∙ ap (λ (z : List ℕ). flat_map run_text h.runs ++ z) same ∙ one_text h.runs t after;
      each = All-push IsTrace h.runs t h.each b.is;
      apart = apart_more h.runs t rest after same h.apart (subst (λ (z : List ℕ). t.summed ≡ false → HasNoSummary t.lines z) (sym (rest_is rest after t len b cut)) b.alone);
      verdicts = subst (AreVerdicts (h.runs ++ t ∷ [])) (sym more) (one_judged h.runs vs t v h.verdicts is);
    }

-- a run has a line
some_line : (ps : List Piece) → 0 < length ps → 0 < length (flat_map piece_text ps)
some_line [] e = absurd (omega arith)
some_line (p ∷ ps) e = omega (arith, length-append (piece_text p) (flat_map piece_text ps), length-append (piece_line p) (10 ∷ []))

some_text : (t : Trace) → IsTrace t → 0 < length (run_text t)
some_text t is = let some = some_line (run_pieces t) (omega arith) in omega (arith, ap length (run_printed t is))

pub within : (rest : List ℕ) (t : Trace) (len : ℕ) → BeginsWith rest t len → len ≤ length rest
within rest t len b = let size = b.size in omega (arith, ap length b.parts, length-append (run_text t) b.after)

pub shorter : (rest after : List ℕ) (t : Trace) (len : ℕ) → BeginsWith rest t len → after ≡ drop len rest → length after < length rest
shorter rest after t len b cut = omega (arith, ap length (rest_is rest after t len b cut), ap length b.parts, length-append (run_text t) b.after, some_text t b.is)

pub at_within : (bytes : List ℕ) (ended : Bool) (at : ℕ) → FaultAt bytes ended at → at ≤ length bytes
at_within bytes ended at f = let place = f.place in omega (arith, ap length f.parts, length-append f.before f.after)

-- where the rest is
place_of : (text rest : List ℕ) (vs : List Verdict) (at : ℕ) (h : JudgedSoFar text rest vs) → at ≡ length text - length rest → at ≡ length (flat_map run_text h.runs)
place_of text rest vs at h e = omega (arith, e, ap length h.parts, length-append (flat_map run_text h.runs) rest)

pub at_fault : (text rest : List ℕ) (vs : List Verdict) (ended : Bool) (at n : ℕ) → JudgedSoFar text rest vs → at ≡ length text - length rest → FaultAt rest ended n
    → FaultAt text ended (at + n)
at_fault text rest vs ended at n h e f =
    subst (λ (z : List ℕ). FaultAt z ended (at + n)) (sym h.parts)
    (subst (λ (k : ℕ). FaultAt (flat_map run_text h.runs ++ rest) ended (k + n)) (sym (place_of text rest vs at h e)) (faults_after h.runs rest ended n h.each h.apart f))

pub lacking : (text rest : List ℕ) (vs : List Verdict) (at n : ℕ) → JudgedSoFar text rest vs → at ≡ length text - length rest → FaultAt rest true n × IsSound rest
    → FaultAt text true (at + n) × IsSound text
lacking text rest vs at n h e both =
    (at_fault text rest vs true at n h e both.0, subst IsSound (sym h.parts) (sounds_after h.runs rest n h.each h.apart both.0 both.1))

pub all_judged : (text rest : List ℕ) (vs : List Verdict) → JudgedSoFar text rest vs → rest ≡ [] → AreJudged text vs
all_judged text rest vs h none = record {
  runs = h.runs;
  are = record { text = h.parts ∙ ap (λ (z : List ℕ). flat_map run_text h.runs ++ z) none ∙ append-nil (flat_map run_text h.runs); each = h.each };
  verdicts = h.verdicts;
}

-- no more runs than bytes
few_texts : (ts : List Trace) → ((k : ℕ) (d : Trace) → k < length ts → IsTrace (get_or ts k d)) → length ts ≤ length (flat_map run_text ts)
few_texts [] h = omega arith
few_texts (t ∷ ts) h =
    let one = some_text t (h 0 t (omega arith)) in
    let more = few_texts ts (λ k d l. h (suc k) d (omega arith)) in
    omega (arith, length-append (run_text t) (flat_map run_text ts))

as_many : (ts : List Trace) (vs : List Verdict) → AreVerdicts ts vs → length vs ≡ length ts
as_many [] [] h = refl
as_many [] (v ∷ vs) h = absurd h
as_many (t ∷ ts) [] h = absurd h
as_many (t ∷ ts) (v ∷ vs) h = ap suc (as_many ts vs h.1)

pub few_runs : (bytes : List ℕ) (vs : List Verdict) → AreJudged bytes vs → length vs ≤ length bytes
few_runs bytes vs h =
    omega (arith, as_many h.runs vs h.verdicts, few_texts h.runs h.are.each, ap length h.are.text)
