-- The verdict on one run, by how many entries come before the first wrong one.
use Rattle.std.proofs.Common.{◌≡◌, ℕ, zero, suc, ◌+◌, ◌<◌, ◌≤◌, ◌==◌, ◌&&◌, ◌≢◌, Bool, true, false, IsTrue, List, [], ◌∷◌, length, take, Option, Some, None, refl, sym, ap, subst, ◌∙◌, arith}
use Rattle.std.specs.Prelude.{◌↔◌, if◌then◌else◌}
use Rattle.std.proofs.lemmas.Bool.{eqb-true, eq-eqb, both_ways}
use Rattle.std.proofs.lemmas.List.{take_all}
use Rattle.lane_machine.specs.Callers.{AreFit}
use Rattle.lane_machine.specs.Histories.{History, IsLegal}
use Rattle.lane_machine.specs.Machine.{step}
use Rattle.lane_machine.specs.State.{State, Opens}
use Rattle.trace_lines.specs.ReadBack.{history_of, jobs_of}
use Rattle.trace_lines.specs.declared.trace_line.TraceLine.{TraceLine}
use Rattle.trace_reading.specs.Traces.{Trace, IsTrace}
use Rattle.fit_audit.specs.Counts.{lent, longest}
use Rattle.lane_audit.specs.Verdicts.{IsFirstWrong}
use Rattle.lane_audit.proofs.Runs.{length-entries}
use Rattle.trace_audit.specs.Counting.{wrong_of}
use Rattle.trace_audit.specs.Verdicts.{opening_of, IsWrongFrom, counted, IsVerdict}
use Rattle.trace_audit.specs.declared.verdict.Verdict.{Verdict}

-- a prefix of a legal history is legal
legal_front : (s : State) (h : History) (n : ℕ) → IsLegal s h → IsLegal s (take n h)
legal_front s h zero l = tt
legal_front s [] (suc n) l = tt
legal_front s (e ∷ es) (suc n) l = (l.0, l.1, l.2, legal_front (step s e.call).0 es n l.3)

-- an entry for each line
as_many : (lines : List TraceLine) → length (history_of lines) ≡ length lines
as_many lines = length-entries (jobs_of lines) [] lines

-- no more entries come before the first wrong one than there are
pub before_within : (s : State) (lines : List TraceLine) (before : ℕ) → IsFirstWrong s (history_of lines) before → before ≤ length lines
before_within s lines before first = let a = first.within in let b = as_many lines in omega arith

-- two tests of which one is on numbers
pub both_hold : (a n : ℕ) (fit r : Bool) → a ≡ n → r ≡ fit → r ≡ ((a == n) && fit)
both_hold a n fit r e is = is ∙ sym (ap (λ (b : Bool). b && fit) (eq-eqb a n e))

pub one_fails : (a n : ℕ) (fit r : Bool) → (a ≡ n → ⊥) → r ≡ (a == n) → r ≡ ((a == n) && fit)
one_fails a n fit r other is = by_test (a == n) refl
  where
    by_test : (b : Bool) → (a == n) ≡ b → r ≡ ((a == n) && fit)
    by_test true e = absurd (other (eqb-true a n e))
    by_test false e = is ∙ e ∙ sym (ap (λ (b : Bool). b && fit) e)

-- whether the calls of a run with these numbers were their callers' to make, where its history is legal
abbrev pub FitsSo : Trace → History → Bool → Type 0
FitsSo t h fit = (s : State) → Opens s → s.slots ≡ t.slots → s.per_slot ≡ t.per_slot → IsLegal s h → (IsTrue fit ↔ AreFit s h)

module _ (t : Trace) (before : ℕ) (first : IsFirstWrong (opening_of t) (history_of t.lines) before) where
  abbrev h : History
  h = history_of t.lines

  -- what is said of the first wrong entry holds, and the counted entries are those before it
  abbrev Holds : Option ℕ → Type 0
  Holds o = IsWrongFrom (opening_of t) h o × (counted o t.lines ≡ take before t.lines)

  whole : before ≡ length t.lines → take before h ≡ h
  whole e = take_all before h (let a = as_many t.lines in omega arith)

  legal_all : before ≡ length t.lines → IsLegal (opening_of t) h
  legal_all e = subst (IsLegal (opening_of t)) (whole e) first.legal

  not_all : before ≢ length t.lines → before < length h
  not_all other = let a = first.within in let b = as_many t.lines in omega (arith, other)

  not_legal : before ≢ length t.lines → ¬ IsLegal (opening_of t) h
  not_legal other l = first.wrong (not_all other) (legal_front (opening_of t) h (before + 1) l)

  holds_by : (b : Bool) → (before == length t.lines) ≡ b → Holds (if b then None else Some before)
  holds_by true e =
      let all : before ≡ length t.lines = eqb-true before (length t.lines) e in
      (legal_all all, sym (take_all before t.lines (omega arith)))
  holds_by false e =
      let other : before ≢ length t.lines = λ same. both_ways (before == length t.lines) e (eq-eqb before (length t.lines) same) in
      ((not_all other, first.legal, first.wrong (not_all other), not_legal other), refl)

  holds : (o : Option ℕ) → o ≡ wrong_of before (length t.lines) → Holds o
  holds o e = subst Holds (sym e) (holds_by (before == length t.lines) refl)

  fit_by : (b fit all : Bool) → (before == length t.lines) ≡ b → all ≡ (b && fit) → (IsLegal (opening_of t) h → (IsTrue fit ↔ AreFit (opening_of t) h))
      → (IsTrue all ↔ (IsLegal (opening_of t) h × AreFit (opening_of t) h))
  fit_by true fit all e is fits =
      let l : IsLegal (opening_of t) h = legal_all (eqb-true before (length t.lines) e) in
      ((λ y. (l, (fits l).0 (sym is ∙ y))), (λ both. is ∙ (fits l).1 both.1))
  fit_by false fit all e is fits =
      let other : before ≢ length t.lines = λ same. both_ways (before == length t.lines) e (eq-eqb before (length t.lines) same) in
      ((λ y. absurd (both_ways all is y)), (λ both. absurd (not_legal other both.0)))

  pub is_verdict : (fit : Bool) (v : Verdict) → IsTrace t
      → FitsSo t h fit
      → v.entries ≡ length t.lines → v.first_wrong ≡ wrong_of before (length t.lines) → v.fit ≡ ((before == length t.lines) && fit)
      → v.lent ≡ lent (take before t.lines) → v.longest ≡ longest (take before t.lines) → IsVerdict t v
  is_verdict fit v is fits entries wrong fit_is lent_is longest_is =
      let k = holds v.first_wrong wrong in
      record {
        entries = entries;
        wrong = k.0;
        fit = fit_by (before == length t.lines) fit v.fit refl fit_is (fits (opening_of t) (record { can = is.can; fresh = refl }) refl refl);
        lent = lent_is ∙ ap lent (sym k.1);
        longest = longest_is ∙ ap longest (sym k.1);
      }
