-- A line for each run.
use Rattle.std.proofs.Common.{◌≡◌, ℕ, suc, ◌+◌, ◌<◌, List, [], ◌∷◌, ◌++◌, length, get_or, take, drop, Option, Some, None, sym, ap, ◌∙◌, arith, append_assoc, append-nil}
use Rattle.std.proofs.lemmas.List.{take_more, drop_more, take-append-drop, length-take-le}
use Rattle.trace_audit.specs.Lines.{run_line, lines_from, wrong_at, wrong_from}
use Rattle.trace_audit.specs.declared.verdict.Verdict.{Verdict}

-- one more run
pub line_after : (n : ℕ) (vs : List Verdict) (v : Verdict) → lines_from n (vs ++ v ∷ []) ≡ lines_from n vs ++ run_line (n + length vs) v
line_after n [] v = append-nil (run_line n v) ∙ ap (λ (k : ℕ). run_line k v) (let same : n ≡ n + 0 = omega arith in same)
line_after n (w ∷ ws) v =
    ap (λ (z : List ℕ). run_line n w ++ z) (line_after (n + 1) ws v ∙ ap (λ (k : ℕ). lines_from (n + 1) ws ++ run_line k v) (let same : n + 1 + length ws ≡ n + suc (length ws) = omega arith in same))
    ∙ sym (append_assoc (run_line n w) (lines_from (n + 1) ws) (run_line (n + suc (length ws)) v))

wrong_by : (o : Option ℕ) (n : ℕ) (vs ws : List Verdict) → (wrong_from (n + 1) vs ≡ None → wrong_from (n + 1) (vs ++ ws) ≡ wrong_from (n + 1 + length vs) ws)
    → wrong_at n o (wrong_from (n + 1) vs) ≡ None → wrong_at n o (wrong_from (n + 1) (vs ++ ws)) ≡ wrong_from (n + suc (length vs)) ws
wrong_by (Some k) n vs ws h e = absurd (cc)
wrong_by None n vs ws h e = h e ∙ ap (λ (k : ℕ). wrong_from k ws) (let same : n + 1 + length vs ≡ n + suc (length vs) = omega arith in same)

-- the first wrong entry is not in the first runs
pub wrong_after : (n : ℕ) (vs ws : List Verdict) → wrong_from n vs ≡ None → wrong_from n (vs ++ ws) ≡ wrong_from (n + length vs) ws
wrong_after n [] ws e = ap (λ (k : ℕ). wrong_from k ws) (let same : n ≡ n + 0 = omega arith in same)
wrong_after n (v ∷ vs) ws e = wrong_by v.first_wrong n vs ws (wrong_after (n + 1) vs ws) e

-- the lines of one more run
pub one_line : (vs : List Verdict) (n : ℕ) (d : Verdict) (old new : List ℕ) → n < length vs → old ≡ lines_from 0 (take n vs) → new ≡ old ++ run_line n (get_or vs n d)
    → new ≡ lines_from 0 (take (n + 1) vs)
one_line vs n d old new within so_far more =
    let v = get_or vs n d in
    let place : 0 + length (take n vs) ≡ n = omega (arith, length-take-le n vs (omega arith)) in
    more ∙ ap (λ (z : List ℕ). z ++ run_line n v) so_far ∙ ap (λ (k : ℕ). lines_from 0 (take n vs) ++ run_line k v) (sym place)
    ∙ sym (ap (lines_from 0) (take_more vs n d within) ∙ line_after 0 (take n vs) v)

-- one more legal run
pub one_legal : (vs : List Verdict) (n : ℕ) (d : Verdict) → n < length vs → (get_or vs n d).first_wrong ≡ None → wrong_from 0 (take n vs) ≡ None
    → wrong_from 0 (take (n + 1) vs) ≡ None
one_legal vs n d within legal so_far =
    ap (wrong_from 0) (take_more vs n d within) ∙ wrong_after 0 (take n vs) (get_or vs n d ∷ []) so_far
    ∙ ap (λ (o : Option ℕ). wrong_at (0 + length (take n vs)) o (wrong_from (0 + length (take n vs) + 1) [])) legal

-- the first one that isn't
pub here_wrong : (vs : List Verdict) (n : ℕ) (d : Verdict) (entry : ℕ) → n < length vs → (get_or vs n d).first_wrong ≡ Some entry
    → wrong_from 0 (take n vs) ≡ None → Some (record { run = n; entry = entry }) ≡ wrong_from 0 vs
here_wrong vs n d entry within wrong so_far =
    let parts : vs ≡ take n vs ++ get_or vs n d ∷ drop (n + 1) vs =
    sym (take-append-drop n vs) ∙ ap (λ (z : List Verdict). take n vs ++ z) (drop_more vs n d within) in
    let place : 0 + length (take n vs) ≡ n = omega (arith, length-take-le n vs (omega arith)) in
    sym (ap (wrong_from 0) parts ∙ wrong_after 0 (take n vs) (get_or vs n d ∷ drop (n + 1) vs) so_far
    ∙ ap (λ (o : Option ℕ). wrong_at (0 + length (take n vs)) o (wrong_from (0 + length (take n vs) + 1) (drop (n + 1) vs))) wrong
    ∙ ap (λ (k : ℕ). Some (record { run = k; entry = entry })) place)
