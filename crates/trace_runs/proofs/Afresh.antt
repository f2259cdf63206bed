-- What is at fault in a text that comes after the texts of runs, of which no summary comes next, is at fault in the whole.
use Rattle.std.proofs.Common.{◌≡◌, ℕ, ◌+◌, Bool, true, false, List, [], ◌∷◌, ◌++◌, length, get_or, take, drop, Option, Some, None, refl, sym, ap, subst, ◌∙◌, arith, append_assoc, append-nil}
use Rattle.std.specs.Prelude.{position}
use Rattle.std.specs.List.{All, flat_map}
use Rattle.std.proofs.lemmas.Bool.{eqb-true}
use Rattle.std.proofs.lemmas.List.{take-append-drop, get_or-append-add, get_or-take, length-append, length-take}
use Rattle.std.proofs.lemmas.List.Elements.{All-cons, All-head, All-tail}
use Rattle.std.proofs.lemmas.List.Quantifiers.{position-Some}
use Rattle.trace_reading.specs.Faults.{FaultAt, GoesWrong, IsWholeLines, is_feed}
use Rattle.trace_reading.specs.Traces.{Trace, IsTrace, AreTraces, MayBegin, run_text}
use Rattle.trace_reading.proofs.OneFault.{found}
use Rattle.trace_reading.proofs.OneReading.{pieces, all_printed, all_fit}
use Rattle.trace_reading.proofs.Pieces.{Piece, piece_text, run_pieces, run_printed, run_fits}
use Rattle.trace_runs.specs.Reading.{HasNoSummary, IsSound, summary_text}
use Rattle.trace_runs.proofs.FirstFaults.{line_before, line_and_feed, none_found, is_sound}
use Rattle.trace_runs.proofs.Lifting.{traces_without_run, without_run}
use Rattle.trace_runs.proofs.Rests.{no_rest, lines_after, whole_lines}

-- where a run has no summary, none comes next
abbrev pub IsApart : Trace → List ℕ → Type 0
IsApart t rest = t.summed ≡ false → HasNoSummary t.lines rest

-- nor in a prefix of that
before_more : (t : Trace) (a b : List ℕ) → IsApart t (a ++ b) → IsApart t a
before_more t a b apart e = record {
  none = λ more same. (apart e).none (more ++ b) (ap (λ (z : List ℕ). z ++ b) same ∙ append_assoc (summary_text t.lines) more b);
}

-- a run before what an input may begin with
begins_after : (t : Trace) (bytes : List ℕ) → IsTrace t → MayBegin bytes → MayBegin (run_text t ++ bytes)
begins_after t bytes is h = (
  h.0,
  t ∷ h.1,
  record {
    text = append_assoc (run_text t) bytes h.0 ∙ ap (λ (z : List ℕ). run_text t ++ z) h.2.text;
    each = All-cons IsTrace t h.1 is h.2.each;
  },
)

module _ (t : Trace) (is : IsTrace t) where
  -- a text with a line feed that begins no input does so after the run neither
  begins_none : (x : List ℕ) (p : ℕ) → position is_feed x ≡ Some p → IsApart t x → ¬ MayBegin x → ¬ MayBegin (run_text t ++ x)
  begins_none x p e apart none begins =
      let cut : x ≡ take p x ++ 10 ∷ drop (p + 1) x = line_and_feed x p e in
      none (subst MayBegin (sym cut)
      (without_run t (take p x) (drop (p + 1) x) is (λ (unsummed : t.summed ≡ false). subst (HasNoSummary t.lines) cut (apart unsummed)) (line_before x p e)
      (subst (λ (z : List ℕ). MayBegin (run_text t ++ z)) cut begins)))

  -- what is no runs is none after the run
  are_none : (rest : List ℕ) (us : List Trace) (o : Option ℕ) → position is_feed rest ≡ o → IsApart t rest → ((vs : List Trace) → ¬ AreTraces rest vs)
      → ¬ AreTraces (run_text t ++ rest) us
  are_none rest us (Some p) e apart none are =
      let cut : rest ≡ take p rest ++ 10 ∷ drop (p + 1) rest = line_and_feed rest p e in
      let whole : run_text t ++ rest ≡ (run_text t ++ (take p rest ++ 10 ∷ drop (p + 1) rest)) ++ [] =
      ap (λ (z : List ℕ). run_text t ++ z) cut ∙ sym (append-nil (run_text t ++ (take p rest ++ 10 ∷ drop (p + 1) rest))) in
      let k = traces_without_run t (take p rest) (drop (p + 1) rest) [] us is (λ (unsummed : t.summed ≡ false). subst (HasNoSummary t.lines) cut (apart unsummed))
      (line_before rest p e) (subst (λ (z : List ℕ). AreTraces z us) whole are) in
      none k.0 (subst (λ (z : List ℕ). AreTraces z k.0) (append-nil (take p rest ++ 10 ∷ drop (p + 1) rest) ∙ sym cut) k.1)
  are_none rest us None e apart none are =
      let text : flat_map piece_text (run_pieces t) ++ rest ≡ flat_map piece_text (pieces us) =
      ap (λ (z : List ℕ). z ++ rest) (sym (run_printed t is)) ∙ are.text ∙ all_printed us are.each in
      let same : pieces us ≡ run_pieces t = no_rest (run_pieces t) (pieces us) rest (run_fits t is) (all_fit us are.each) (none_found rest e) text in
      let sizes : length (flat_map piece_text (run_pieces t)) + length rest ≡ length (flat_map piece_text (run_pieces t)) =
      sym (length-append (flat_map piece_text (run_pieces t)) rest) ∙ ap length text ∙ ap (λ (z : List Piece). length (flat_map piece_text z)) same in
      none [] (nothing rest (omega arith))
    where
      nothing : (xs : List ℕ) → length xs ≡ 0 → AreTraces xs []
      nothing [] e = record { text = refl; each = λ k d l. absurd (omega arith) }
      nothing (x ∷ xs) e = absurd (omega arith)

  -- a line that goes wrong does so after the run
  wrong_after : (rest before after : List ℕ) (ended : Bool) (o : Option ℕ) → position is_feed after ≡ o → rest ≡ before ++ after → IsApart t rest
      → GoesWrong ended before after o → GoesWrong ended (run_text t ++ before) after o
  wrong_after rest before after ended (Some n) e parts apart wrong =
      let x = before ++ take (n + 1) after in
      let at = position-Some is_feed after n 0 e in
      let cut : rest ≡ x ++ drop (n + 1) after =
      parts ∙ ap (λ (z : List ℕ). before ++ z) (sym (take-append-drop (n + 1) after)) ∙ sym (append_assoc before (take (n + 1) after) (drop (n + 1) after)) in
      let size : length x ≡ length before + (n + 1) =
      length-append before (take (n + 1) after) ∙ ap (λ (m : ℕ). length before + m) (length-take (n + 1) after ∙ omega (arith, at.0)) in
      let feed : get_or x (length before + n) 0 ≡ 10 =
      get_or-append-add before (take (n + 1) after) n 0 ∙ get_or-take (n + 1) after n 0 (omega arith) ∙ eqb-true (get_or after n 0) 10 at.1 in
      let k = found x (length before + n) (position is_feed x) refl (omega arith) feed in
      λ begins. begins_none x k.0 k.1 (before_more t x (drop (n + 1) after) (λ (unsummed : t.summed ≡ false). subst (HasNoSummary t.lines) cut (apart unsummed))) wrong
      (subst MayBegin (append_assoc (run_text t) before (take (n + 1) after)) begins)
  wrong_after rest before after ended None e parts apart wrong = (
    wrong.0,
    λ us are.
        are_none rest us (position is_feed rest) refl apart (λ vs these. wrong.1 vs (subst (λ (z : List ℕ). AreTraces z vs) parts these))
        (subst (λ (z : List ℕ). AreTraces z us) (append_assoc (run_text t) before after ∙ ap (λ (z : List ℕ). run_text t ++ z) (sym parts)) are),
  )

  fault_after : (rest : List ℕ) (ended : Bool) (at : ℕ) → IsApart t rest → FaultAt rest ended at → FaultAt (run_text t ++ rest) ended (length (run_text t) + at)
  fault_after rest ended at apart f = record {
    before = run_text t ++ f.before;
    after = f.after;
    parts = ap (λ (z : List ℕ). run_text t ++ z) f.parts ∙ sym (append_assoc (run_text t) f.before f.after);
    place = ap (λ (n : ℕ). length (run_text t) + n) f.place ∙ sym (length-append (run_text t) f.before);
    lines = lines_after (run_text t) f.before (subst IsWholeLines (sym (run_printed t is)) (whole_lines (run_pieces t))) f.lines;
    begins = begins_after t f.before is f.begins;
    wrong = wrong_after rest f.before f.after ended (position is_feed f.after) refl f.parts apart f.wrong;
  }

  -- where lines are lacking, and no whole one is at fault, none is in the whole
  sound_after : (rest : List ℕ) (at : ℕ) → FaultAt rest true at → IsSound rest → IsSound (run_text t ++ rest)
  sound_after rest at f sound = by_feed (position is_feed f.after) refl f.wrong
    where
      by_feed : (o : Option ℕ) → position is_feed f.after ≡ o → GoesWrong true f.before f.after o → IsSound (run_text t ++ rest)
      by_feed (Some n) e wrong =
          absurd (sound at (record {
            before = f.before;
            after = f.after;
            parts = f.parts;
            place = f.place;
            lines = f.lines;
            begins = f.begins;
            wrong = subst (GoesWrong false f.before f.after) (sym e) wrong;
          }))
      by_feed None e wrong =
          subst IsSound (append_assoc (run_text t) f.before f.after ∙ ap (λ (z : List ℕ). run_text t ++ z) (sym f.parts))
          (is_sound (run_text t ++ f.before) f.after (begins_after t f.before is f.begins) (none_found f.after e))

-- each run is apart from what comes after it
abbrev pub AreApart : List Trace → List ℕ → Type 0
AreApart [] rest = Unit {0}
AreApart (t ∷ ts) rest = IsApart t (flat_map run_text ts ++ rest) × AreApart ts rest

-- what is at fault after runs
pub faults_after : (ts : List Trace) (rest : List ℕ) (ended : Bool) (at : ℕ) → All IsTrace ts → AreApart ts rest → FaultAt rest ended at
    → FaultAt (flat_map run_text ts ++ rest) ended (length (flat_map run_text ts) + at)
faults_after [] rest ended at each apart f = subst (λ (n : ℕ). FaultAt rest ended n) (let same : at ≡ 0 + at = omega arith in same) f
faults_after (t ∷ ts) rest ended at each apart f =
    let later = flat_map run_text ts in
    let place : length (run_text t) + (length later + at) ≡ length (run_text t ++ later) + at = omega (arith, length-append (run_text t) later) in
    subst (λ (n : ℕ). FaultAt ((run_text t ++ later) ++ rest) ended n) place
    (subst (λ (z : List ℕ). FaultAt z ended (length (run_text t) + (length later + at))) (sym (append_assoc (run_text t) later rest))
    (fault_after t (All-head IsTrace t ts each) (later ++ rest) ended (length later + at) apart.0
    (faults_after ts rest ended at (All-tail IsTrace t ts each) apart.1 f)))

-- and what isn't
pub sounds_after : (ts : List Trace) (rest : List ℕ) (at : ℕ) → All IsTrace ts → AreApart ts rest → FaultAt rest true at → IsSound rest
    → IsSound (flat_map run_text ts ++ rest)
sounds_after [] rest at each apart f sound = sound
sounds_after (t ∷ ts) rest at each apart f sound =
    let later = flat_map run_text ts in
    let others = All-tail IsTrace t ts each in
    subst IsSound (sym (append_assoc (run_text t) later rest))
    (sound_after t (All-head IsTrace t ts each) (later ++ rest) (length later + at) (faults_after ts rest true at others apart.1 f)
    (sounds_after ts rest at others apart.1 f sound))

-- one more run that is apart from what comes after it
pub apart_more : (ts : List Trace) (t : Trace) (rest after : List ℕ) → rest ≡ run_text t ++ after → AreApart ts rest → IsApart t after → AreApart (ts ++ t ∷ []) after
apart_more [] t rest after e apart last = (last, tt)
apart_more (u ∷ us) t rest after e apart last =
    let same : flat_map run_text us ++ rest ≡ flat_map run_text (us ++ t ∷ []) ++ after = one_more us t rest after e in
    (λ (unsummed : u.summed ≡ false). subst (HasNoSummary u.lines) same (apart.0 unsummed), apart_more us t rest after e apart.1 last)
  where
    one_more : (us : List Trace) (t : Trace) (rest after : List ℕ) → rest ≡ run_text t ++ after → flat_map run_text us ++ rest ≡ flat_map run_text (us ++ t ∷ []) ++ after
    one_more [] t rest after e = e ∙ ap (λ (z : List ℕ). z ++ after) (sym (append-nil (run_text t)))
    one_more (u ∷ us) t rest after e =
        append_assoc (run_text u) (flat_map run_text us) rest ∙ ap (λ (z : List ℕ). run_text u ++ z) (one_more us t rest after e)
        ∙ sym (append_assoc (run_text u) (flat_map run_text (us ++ t ∷ [])) after)
