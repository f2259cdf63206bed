-- What reading a run comes to, line by line.
use Rattle.std.proofs.Common.{◌≡◌, ℕ, ◌+◌, ◌-◌, ◌<◌, ◌≤◌, Bool, true, false, List, [], ◌∷◌, ◌++◌, length, Some, None, refl, sym, ap, subst, ◌∙◌, arith, append_assoc, append-nil}
use Rattle.std.proofs.lemmas.Bool.{both_ways}
use Rattle.std.proofs.lemmas.List.{length-append}
use Rattle.trace_lines.specs.Texts.{head_text, line_text, count_text}
use Rattle.std.specs.List.{flat_map}
use Rattle.trace_reading.specs.Faults.{FaultAt}
use Rattle.trace_reading.specs.Traces.{Trace, IsTrace, run_text, told_text}
use Rattle.trace_runs.specs.Begun.{begun_text, IsBegun, HasNoFeed}
use Rattle.trace_runs.specs.Reading.{is_nothing, IsSound, CutsLine, summary_text, IsSummaryAt, TakesLine, OpensRun, BeginsWith}
use Rattle.trace_runs.specs.declared.cut.Cut.{Cut}
use Rattle.trace_runs.specs.declared.step.Step.TheVariants.{Goes, Ends, Refused}
use Rattle.trace_runs.proofs.Texts.{begins}
use Rattle.trace_runs.proofs.FirstFaults.{lacks, lacks_all, nothing_begins, no_more, no_run, is_sound}

some_length : (text : List ℕ) → is_nothing text ≡ false → 0 < length text
some_length [] e = absurd (both_ways true e refl)
some_length (b ∷ bs) e = omega arith

pub lacking_all : (text : List ℕ) → HasNoFeed text → is_nothing text ≡ false → FaultAt text true 0 × IsSound text
lacking_all text f some = (lacks_all text f (some_length text some), is_sound [] text nothing_begins f)

pub within : (text a b : List ℕ) → text ≡ a ++ b → length b ≤ length text
within text a b e = omega (arith, ap length e, length-append a b)

size_of : (text a b : List ℕ) → text ≡ a ++ b → length text - length b ≡ length a
size_of text a b e = omega (arith, ap length e, length-append a b)

pub unsummed : (text after : List ℕ) (t : Trace) → text ≡ run_text t ++ after → IsTrace t → IsSummaryAt t.lines after None → BeginsWith text t (length text - length after)
unsummed text after t e is none = record { after = after; parts = e; size = size_of text (run_text t) after e; is = is; alone = λ no_sum. none }

-- a run without its summary, and with it
with_summary : (t : Trace) → t.summed ≡ false → run_text (record t { summed = true }) ≡ run_text t ++ summary_text t.lines
with_summary t e =
    let before = (head_text t.pool t.slots t.per_slot ++ flat_map line_text t.lines) ++ count_text (length t.lines) in
    ap (λ (z : List ℕ). z ++ summary_text t.lines) (sym (append-nil before) ∙ ap (λ (b : Bool). before ++ told_text b t.lines) (sym e))

pub summed : (text after : List ℕ) (t : Trace) (n : ℕ) → text ≡ run_text t ++ after → IsTrace t → t.summed ≡ false → IsSummaryAt t.lines after (Some n)
    → BeginsWith text (record t { summed = true }) (length text - length after + n)
summed text after t n e is none at =
    let more = at.1.0 in
    let longer = with_summary t none in
    record {
      after = more;
      parts = e ∙ ap (λ (z : List ℕ). run_text t ++ z) at.1.1 ∙ sym (append_assoc (run_text t) (summary_text t.lines) more) ∙ ap (λ (z : List ℕ). z ++ more) (sym longer);
      size = let size = size_of text (run_text t) after e in omega (arith, size, at.0, ap length longer, length-append (run_text t) (summary_text t.lines));
      is = record { can = is.can; bare = is.bare; some_lane = is.some_lane; lanes = is.lanes; within = is.within; few = is.few };
      alone = λ no_sum. cc;
    }

pub shorter : (rest : List ℕ) (cut : Cut) → CutsLine rest (Some cut) → length cut.after.now < length rest
shorter rest cut h = omega (arith, ap length h.0, length-append cut.line.now (10 ∷ cut.after.now))

joined : (text a rest line after : List ℕ) → text ≡ a ++ rest → rest ≡ line ++ 10 ∷ after → text ≡ (a ++ (line ++ 10 ∷ [])) ++ after
joined text a rest line after e is =
    e ∙ ap (λ (z : List ℕ). a ++ z) (is ∙ sym (append_assoc line (10 ∷ []) after)) ∙ sym (append_assoc a (line ++ 10 ∷ []) after)

pub goes_on : (text rest : List ℕ) (t t' : Trace) (cut : Cut) → text ≡ begun_text t ++ rest → CutsLine rest (Some cut) → TakesLine t cut.line.now t' Goes
    → IsBegun t' × (text ≡ begun_text t' ++ cut.after.now)
goes_on text rest t t' cut e c h = (h.0, joined text (begun_text t) rest cut.line.now cut.after.now e c.0 ∙ ap (λ (z : List ℕ). z ++ cut.after.now) (sym h.1))

pub ends_is : (t t' : Trace) (cut : Cut) → TakesLine t cut.line.now t' Ends → IsTrace t'
ends_is t t' cut h = h.0

pub ends_unsummed : (t t' : Trace) (cut : Cut) → TakesLine t cut.line.now t' Ends → t'.summed ≡ false
ends_unsummed t t' cut h = h.1

pub ends_parts : (text rest : List ℕ) (t t' : Trace) (cut : Cut) → text ≡ begun_text t ++ rest → CutsLine rest (Some cut) → TakesLine t cut.line.now t' Ends
    → text ≡ run_text t' ++ cut.after.now
ends_parts text rest t t' cut e c h = joined text (begun_text t) rest cut.line.now cut.after.now e c.0 ∙ ap (λ (z : List ℕ). z ++ cut.after.now) (sym h.2)

pub refused : (text rest : List ℕ) (t t' : Trace) (cut : Cut) → IsBegun t → text ≡ begun_text t ++ rest → CutsLine rest (Some cut) → TakesLine t cut.line.now t' Refused
    → FaultAt text false (length text - length rest)
refused text rest t t' cut f e c h =
    subst (λ (n : ℕ). FaultAt text false n) (sym (size_of text (begun_text t) rest e))
    (subst (λ (z : List ℕ). FaultAt z false (length (begun_text t))) (ap (λ (z : List ℕ). begun_text t ++ z) (sym c.0) ∙ sym e) (no_more t cut.line.now cut.after.now f c.1 h.none))

pub lacking : (text rest : List ℕ) (t : Trace) → IsBegun t → text ≡ begun_text t ++ rest → HasNoFeed rest → FaultAt text true (length text - length rest) × IsSound text
lacking text rest t f e n = (
  subst (λ (m : ℕ). FaultAt text true m) (sym (size_of text (begun_text t) rest e)) (subst (λ (z : List ℕ). FaultAt z true (length (begun_text t))) (sym e) (lacks t rest f n)),
  subst IsSound (sym e) (is_sound (begun_text t) rest (begins t f) n),
)

pub opens_begun : (w : List ℕ) (t : Trace) → OpensRun w (Some t) → IsBegun t
opens_begun w t h = h.0

pub opens_parts : (text : List ℕ) (cut : Cut) (t : Trace) → CutsLine text (Some cut) → OpensRun cut.line.now (Some t) → text ≡ begun_text t ++ cut.after.now
opens_parts text cut t c h = joined text [] text cut.line.now cut.after.now refl c.0 ∙ ap (λ (z : List ℕ). z ++ cut.after.now) (sym h.1)

pub opens_none : (text : List ℕ) (cut : Cut) → CutsLine text (Some cut) → OpensRun cut.line.now None → FaultAt text false 0
opens_none text cut c h = subst (λ (z : List ℕ). FaultAt z false 0) (sym c.0) (no_run cut.line.now cut.after.now c.1 h.none)
