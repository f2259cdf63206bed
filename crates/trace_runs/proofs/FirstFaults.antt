-- The first line at fault in the text of a run.
use Rattle.std.proofs.Common.{◌≡◌, ℕ, ◌+◌, ◌-◌, ◌<◌, ◌≤◌, zero, suc, Bool, true, false, inl, inr, List, [], ◌∷◌, ◌++◌, length, get_or, take, drop, Option, Some, None, refl, sym, ap, subst, ◌∙◌, arith, append_assoc, eq-eqb}
use Rattle.std.specs.Prelude.{position}
use Rattle.std.proofs.lemmas.Bool.{both_ways, cases_order, eqb-true}
use Rattle.std.proofs.lemmas.Option.{none-some}
use Rattle.std.proofs.lemmas.List.{take_at, drop-drop, take-append-drop, drop_more, get_or_at, get_or-append-add, get_or_append_left, length-append, length-take, get_or-take}
use Rattle.std.proofs.lemmas.List.Quantifiers.{position-Some}
use Rattle.trace_reading.specs.Faults.{FaultAt, GoesWrong, IsWholeLines, is_feed}
use Rattle.trace_reading.specs.declared.row.Head.{Head}
use Rattle.trace_reading.specs.declared.row.Row.{Row}
use Rattle.trace_reading.specs.declared.row.Row.TheVariants.{Pool as PoolRow}
use Rattle.trace_reading.specs.RowReading.{line_in}
use Rattle.trace_reading.specs.Traces.{Trace, IsTrace, AreTraces, MayBegin}
use Rattle.trace_reading.proofs.OneFault.{may_begin, longer, found}
use Rattle.trace_runs.specs.Begun.{run_of, first_lane, begun_text, IsBegun, MayFollow, HasNoFeed}
use Rattle.trace_runs.specs.Reading.{IsSound}
use Rattle.trace_runs.proofs.Rests.{whole_lines}
use Rattle.trace_runs.proofs.Texts.{lines_of, begun_printed, next_follows, first_opens, no_traces, no_part, begins}

-- where the first line feed is

no_feed_there : (xs : List ℕ) (m : ℕ) → HasNoFeed xs → m < length xs → get_or xs m 0 ≡ 10 → ⊥
no_feed_there [] m f l e = omega arith
no_feed_there (x ∷ xs) zero f l e = both_ways (is_feed x) f.0 (eq-eqb x 10 e)
no_feed_there (x ∷ xs) (suc m) f l e = no_feed_there xs m f.1 (omega arith) e

none_is : (xs : List ℕ) → ((k : ℕ) → k < length xs → is_feed (get_or xs k 0) ≡ false) → HasNoFeed xs
none_is [] h = tt
none_is (x ∷ xs) h = (h 0 (omega arith), none_is xs (λ k l. h (suc k) (omega arith)))

pub line_before : (xs : List ℕ) (n : ℕ) → position is_feed xs ≡ Some n → HasNoFeed (take n xs)
line_before xs n e =
    let h = position-Some is_feed xs n 0 e in
    none_is (take n xs) (λ k l. let within : k < n = omega (arith, l, length-take n xs) in ap is_feed (get_or-take n xs k 0 within) ∙ h.2 k within)

pub line_and_feed : (xs : List ℕ) (n : ℕ) → position is_feed xs ≡ Some n → xs ≡ take n xs ++ 10 ∷ drop (n + 1) xs
line_and_feed xs n e =
    let h = position-Some is_feed xs n 0 e in
    sym (take-append-drop n xs) ∙ ap (λ (z : List ℕ). take n xs ++ z) (drop_more xs n 0 h.0 ∙ ap (λ (b : ℕ). b ∷ drop (n + 1) xs) (eqb-true (get_or xs n 0) 10 h.1))

pub feed_at : (w after : List ℕ) (o : Option ℕ) → position is_feed (w ++ 10 ∷ after) ≡ o → HasNoFeed w → o ≡ Some (length w)
feed_at w after (Some p) e f =
    let all = w ++ 10 ∷ after in
    let size = length-append w (10 ∷ after) in
    let here : get_or all (length w) 0 ≡ 10 = get_or_at w 10 after 0 (length w) refl in
    let h = position-Some is_feed all p 0 e in
    ap Some (elim (cases_order p (length w)) [
      | inl same ↦ same
      | inr other ↦ elim other [
        | inl less ↦ absurd (no_feed_there w p f less (sym (get_or_append_left w (10 ∷ after) 0 p less) ∙ eqb-true (get_or all p 0) 10 h.1))
        | inr more ↦ absurd (both_ways (is_feed (get_or all (length w) 0)) (h.2 (length w) more) (ap is_feed here))
      ]
    ])
feed_at w after None e f =
    let k = found (w ++ 10 ∷ after) (length w) None e (omega (arith, length-append w (10 ∷ after))) (get_or_at w 10 after 0 (length w) refl) in
    absurd (none-some k.0 k.1)

no_feed : (xs : List ℕ) (o : Option ℕ) → position is_feed xs ≡ o → HasNoFeed xs → o ≡ None
no_feed xs (Some p) e f =
    let h = position-Some is_feed xs p 0 e in
    absurd (no_feed_there xs p f h.0 (eqb-true (get_or xs p 0) 10 h.1))
no_feed xs None e f = refl

pub none_found : (xs : List ℕ) → position is_feed xs ≡ None → HasNoFeed xs
none_found xs e =
    none_is xs (λ k l. is_not xs k l e (is_feed (get_or xs k 0)) refl)
  where
    is_not : (xs : List ℕ) (k : ℕ) → k < length xs → position is_feed xs ≡ None → (b : Bool) → is_feed (get_or xs k 0) ≡ b → b ≡ false
    is_not xs k l e true h =
        let j = found xs k None e l (eqb-true (get_or xs k 0) 10 h) in absurd (none-some j.0 j.1)
    is_not xs k l e false h = refl

-- what goes wrong with a whole line
wrong_line : (ended : Bool) (before w after : List ℕ) → HasNoFeed w → ¬ MayBegin (before ++ (w ++ 10 ∷ [])) → GoesWrong ended before (w ++ 10 ∷ after) (position is_feed (w ++ 10 ∷ after))
wrong_line ended before w after f wrong =
    let size = length-append w (10 ∷ []) in
    let cut : take (length w + 1) (w ++ 10 ∷ after) ≡ w ++ 10 ∷ [] =
    ap (take (length w + 1)) (sym (append_assoc w (10 ∷ []) after)) ∙ take_at (w ++ 10 ∷ []) after (length w + 1) (omega arith) in
    subst (GoesWrong ended before (w ++ 10 ∷ after)) (sym (feed_at w after (position is_feed (w ++ 10 ∷ after)) refl f))
    (λ h. wrong (subst (λ (z : List ℕ). MayBegin (before ++ z)) cut h))

-- and where no line feed comes any more
wrong_end : (before after : List ℕ) → HasNoFeed after → ((ts : List Trace) → ¬ AreTraces (before ++ after) ts) → GoesWrong true before after (position is_feed after)
wrong_end before after f wrong =
    subst (GoesWrong true before after) (sym (no_feed after (position is_feed after) refl f)) (refl, wrong)

begun_whole : (t : Trace) → IsBegun t → IsWholeLines (begun_text t)
begun_whole t f = subst IsWholeLines (sym (begun_printed t f)) (whole_lines (lines_of t))

pub nothing_begins : MayBegin []
nothing_begins = ([], [], record { text = refl; each = λ k d l. absurd (omega arith) })

-- the first line opens no run
pub no_run : (w after : List ℕ) → HasNoFeed w → ((head : Head) → line_in w ≡ Some (PoolRow head) → ¬ IsTrace (run_of head (first_lane ∷ []) [])) → FaultAt (w ++ 10 ∷ after) false 0
no_run w after f none = record {
  before = [];
  after = w ++ 10 ∷ after;
  parts = refl;
  place = refl;
  lines = inl refl;
  begins = nothing_begins;
  wrong = wrong_line false [] w after f (λ h. let k = first_opens w f h in none k.0 k.1 k.2);
}

-- a line may not follow
pub no_more : (t : Trace) (w after : List ℕ) → IsBegun t → HasNoFeed w → ((r : Row) → line_in w ≡ Some r → ¬ MayFollow t r) → FaultAt (begun_text t ++ (w ++ 10 ∷ after)) false (length (begun_text t))
no_more t w after f n none = record {
  before = begun_text t;
  after = w ++ 10 ∷ after;
  parts = refl;
  place = refl;
  lines = begun_whole t f;
  begins = begins t f;
  wrong = wrong_line false (begun_text t) w after n (λ h. let k = next_follows t w f n h in none k.0 k.1 k.2);
}

-- lines are lacking
pub lacks : (t : Trace) (after : List ℕ) → IsBegun t → HasNoFeed after → FaultAt (begun_text t ++ after) true (length (begun_text t))
lacks t after f n = record {
  before = begun_text t;
  after = after;
  parts = refl;
  place = refl;
  lines = begun_whole t f;
  begins = begins t f;
  wrong = wrong_end (begun_text t) after n (λ us. no_traces t after us f n);
}

pub lacks_all : (after : List ℕ) → HasNoFeed after → 0 < length after → FaultAt after true 0
lacks_all after n some = record {
  before = [];
  after = after;
  parts = refl;
  place = refl;
  lines = inl refl;
  begins = nothing_begins;
  wrong = wrong_end [] after n (λ us. no_part after us n some);
}

-- no whole line is at fault before the end of lines with which an input may begin
pub is_sound : (before after : List ℕ) → MayBegin before → HasNoFeed after → IsSound (before ++ after)
is_sound before after begins n at f = at_line (position is_feed f.after) refl f.wrong
  where
    beyond : (p : ℕ) → get_or f.after p 0 ≡ 10 → p < length f.after → length before + length after ≡ length f.before + length f.after → length before ≤ length f.before + p → ⊥
    beyond p feed l sizes behind =
        let m = length f.before + p - length before in
        let same : get_or after m 0 ≡ 10 =
        sym (get_or-append-add before after m 0) ∙ ap (λ (k : ℕ). get_or (before ++ after) k 0) (let a : length before + m ≡ length f.before + p = omega arith in a)
        ∙ ap (λ (z : List ℕ). get_or z (length f.before + p) 0) f.parts ∙ get_or-append-add f.before f.after p 0 ∙ feed in
        no_feed_there after m n (omega arith) same

    at_line : (o : Option ℕ) → position is_feed f.after ≡ o → GoesWrong false f.before f.after o → ⊥
    at_line (Some p) e wrong =
        let h = position-Some is_feed f.after p 0 e in
        let feed : get_or f.after p 0 ≡ 10 = eqb-true (get_or f.after p 0) 10 h.1 in
        let front = f.before ++ take (p + 1) f.after in
        let whole : front ++ drop (p + 1) f.after ≡ before ++ after =
        append_assoc f.before (take (p + 1) f.after) (drop (p + 1) f.after) ∙ ap (λ (z : List ℕ). f.before ++ z) (take-append-drop (p + 1) f.after) ∙ sym f.parts in
        let size : length front ≡ length f.before + (p + 1) = length-append f.before (take (p + 1) f.after) ∙ ap (λ (m : ℕ). length f.before + m) (length-take (p + 1) f.after ∙ omega (arith, h.0)) in
        let sizes : length before + length after ≡ length f.before + length f.after = sym (length-append before after) ∙ ap length f.parts ∙ length-append f.before f.after in
        elim (cases_order (length before) (length f.before + p)) [
          | inl same ↦ beyond p feed h.0 sizes (omega arith)
          | inr other ↦ elim other [
            | inl less ↦ beyond p feed h.0 sizes (omega arith)
            | inr more ↦
                let k = longer front (drop (p + 1) f.after) before after whole (omega arith) in
                wrong (may_begin front k.0 (subst MayBegin k.1 begins))
          ]
        ]
    at_line None e wrong = both_ways false refl wrong.0

-- a text is cut at its first line feed
pub is_cut : (text : List ℕ) (n : ℕ) (line rest after : List ℕ) → Some n ≡ position is_feed text → line ≡ take n text → rest ≡ drop n text → after ≡ drop 1 rest
    → (text ≡ line ++ 10 ∷ after) × HasNoFeed line
is_cut text n line rest after at front back is =
    let tail : after ≡ drop (n + 1) text = is ∙ ap (drop 1) back ∙ drop-drop 1 n text in (
      line_and_feed text n (sym at) ∙ (λ i. sym front i ++ 10 ∷ sym tail i),
      subst HasNoFeed (sym front) (line_before text n (sym at)),
    )
