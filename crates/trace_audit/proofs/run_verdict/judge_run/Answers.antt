-- The verdict by what was counted.
use Rattle.std.proofs.Common.{◌≡◌, ℕ, ◌∙◌, ◌&&◌, ◌==◌, List, length, take, sym, ap, subst}
use Rattle.trace_lines.specs.ReadBack.{history_of}
use Rattle.trace_lines.specs.declared.trace_line.TraceLine.{TraceLine}
use Rattle.fit_audit.specs.Counts.{lent, longest}
use Rattle.trace_audit.specs.Counting.{wrong_of}
use Rattle.trace_reading.specs.Traces.{Trace, IsTrace}
use Rattle.trace_audit.specs.Verdicts.{opening_of, IsVerdict}
use Rattle.lane_audit.specs.Verdicts.{IsFirstWrong}
use Rattle.trace_audit.specs.declared.verdict.Verdict.{Verdict}
use Rattle.trace_audit.proofs.Judging.{FitsSo, before_within, both_hold, one_fails, is_verdict}
use Rattle.trace_audit.proofs.run_verdict.judge_run.Goals.{then-before-lines, else-before-lines}
use Rattle.trace_audit.proofs.run_verdict.judge_run.Goals as goal

pub split_at-requires : goal.split_at-requires
split_at-requires c = before_within _ c.as_slice-lines.result.now c.in_ok-before.before c.in_ok-before.ensures

pub returns : goal.returns
returns c =
    let run = c.run.inside in
    let t : Trace = record { pool = run.pool; slots = run.slots; per_slot = run.per_slot; lines = run.lines.items; summed = run.summed } in
    let lines : c.as_slice-lines.result.now ≡ t.lines = c.as_slice-lines.ensures in
    let before = c.in_ok-before.before in
    let first : IsFirstWrong (opening_of t) (history_of t.lines) before = subst (λ (z : List TraceLine). IsFirstWrong (opening_of t) (history_of z) before) lines c.in_ok-before.ensures in
    let counted : c.split_at.result.0.now ≡ take before t.lines = c.split_at.ensures.front ∙ ap (take before) lines in
    let fits = subst (λ (z : List TraceLine). FitsSo t (history_of z) c.in_ok-fit.fit) lines c.in_ok-fit.ensures in
    let fit : c.if-before-lines.result ≡ ((before == length t.lines) && c.in_ok-fit.fit) = elim c.if-before-lines.branch [
      | then-before-lines w ↦ both_hold before (length t.lines) c.in_ok-fit.fit c.if-before-lines.result (w.if-before-lines.true ∙ ap length lines) w.result-is
      | else-before-lines w ↦
          one_fails before (length t.lines) c.in_ok-fit.fit c.if-before-lines.result (λ same. w.if-before-lines.false (same ∙ sym (ap length lines)))
          (w.result-is ∙ ap (λ (n : ℕ). before == n) (ap length lines))
    ] in
    let v : Verdict = record {
      entries = length c.as_slice-lines.result.now;
      first_wrong = c.first_wrong.result;
      fit = c.if-before-lines.result;
      lent = c.count_lent.result;
      longest = c.in_ok-longest.longest;
    } in
    subst (λ (z : Trace). IsVerdict z v) c.run.view_is
    (is_verdict t before first c.in_ok-fit.fit v (subst IsTrace (sym c.run.view_is) c.requires) fits (ap length lines)
    (c.first_wrong.ensures ∙ ap (λ (z : List TraceLine). wrong_of before (length z)) lines)
    fit (c.count_lent.ensures.count ∙ ap lent counted) (c.in_ok-longest.ensures.wait ∙ ap longest counted))
