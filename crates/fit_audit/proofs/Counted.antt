-- What is counted, with one line more.
use Rattle.std.proofs.Common.{◌≡◌, ℕ, ◌+◌, ◌<◌, ◌≤◌, List, [], ◌∷◌, ◌++◌, Option, Some, None, length, take, get_or, sym, ap, ◌∙◌, arith, append-nil, append_assoc}
use Rattle.std.specs.Prelude.{max, slice_get}
use Rattle.std.proofs.lemmas.List.{take_more, length-take-le}
use Rattle.trace_lines.specs.declared.trace_line.Action.{Action}
use Rattle.trace_lines.specs.declared.trace_line.Action.TheVariants as action
use Rattle.trace_lines.specs.declared.trace_line.TraceLine.{TraceLine}
use Rattle.fit_audit.specs.Counts.{kept_in, kept_lines, lines_since, task_wait, wait_of, longest_from}

-- a list with one line more
abbrev IsNext : List TraceLine → ℕ → TraceLine → Type 0
IsNext lines i l = (i < length lines) × (l ≡ get_or lines i l)

next_line : (lines : List TraceLine) (i : ℕ) (l : TraceLine) → IsNext lines i l → take (i + 1) lines ≡ take i lines ++ l ∷ []
next_line lines i l n = take_more lines i l n.0 ∙ ap (λ (x : TraceLine). take i lines ++ x ∷ []) (sym n.1)

kept_push : (n : ℕ) (ls : List TraceLine) (l : TraceLine) (m : ℕ) → m ≡ n + length ls → kept_lines n (ls ++ l ∷ []) ≡ kept_lines n ls ++ kept_in m l.action
kept_push n [] l m e = append-nil (kept_in n l.action) ∙ ap (λ (k : ℕ). kept_in k l.action) (let a : n ≡ m = omega arith in a)
kept_push n (x ∷ xs) l m e =
    ap (λ (z : List (Option ℕ)). kept_in n x.action ++ z) (kept_push (n + 1) xs l m (omega arith))
    ∙ sym (append_assoc (kept_in n x.action) (kept_lines (n + 1) xs) (kept_in m l.action))

-- the Offers among the lines up to this one
pub one_kept : (lines : List TraceLine) (i : ℕ) (l : TraceLine) (kept kept' : List (Option ℕ)) → i < length lines → l ≡ get_or lines i l → kept ≡ kept_lines 0 (take i lines)
    → kept' ≡ kept ++ kept_in i l.action → kept' ≡ kept_lines 0 (take (i + 1) lines)
one_kept lines i l kept kept' within here before after =
    after ∙ ap (λ (z : List (Option ℕ)). z ++ kept_in i l.action) before
    ∙ sym (ap (kept_lines 0) (next_line lines i l (within, here)) ∙ kept_push 0 (take i lines) l i (let a = length-take-le i lines (omega arith) in omega arith))

longest_push : (kept : List (Option ℕ)) (n : ℕ) (ls : List TraceLine) (l : TraceLine) (m : ℕ) → m ≡ n + length ls
    → longest_from kept n (ls ++ l ∷ []) ≡ max (longest_from kept n ls) (wait_of kept m l.action)
longest_push kept n [] l m e = let a : wait_of kept n l.action ≡ wait_of kept m l.action = ap (λ (k : ℕ). wait_of kept k l.action) (let b : n ≡ m = omega arith in b) in omega arith
longest_push kept n (x ∷ xs) l m e = let a = longest_push kept (n + 1) xs l m (omega arith) in omega arith

since_within : (n : ℕ) (o : Option (Option ℕ)) → lines_since n o ≤ n
since_within n (Some (Some place)) = omega arith
since_within n (Some None) = omega arith
since_within n None = omega arith

task_within : (kept : List (Option ℕ)) (n : ℕ) (o : Option ℕ) → task_wait kept n o ≤ n
task_within kept n (Some k) = since_within n (slice_get kept k)
task_within kept n None = omega arith

wait_within : (kept : List (Option ℕ)) (n : ℕ) (a : Action) → wait_of kept n a ≤ n
wait_within kept n (action.Take t task) = task_within kept n task
wait_within kept n a = omega arith

from_within : (kept : List (Option ℕ)) (n : ℕ) (ls : List TraceLine) → longest_from kept n ls ≤ n + length ls
from_within kept n [] = omega arith
from_within kept n (x ∷ xs) = let a = wait_within kept n x.action in let b = from_within kept (n + 1) xs in omega arith

-- the longest wait among the lines up to this one
pub one_waited : (kept : List (Option ℕ)) (lines : List TraceLine) (i : ℕ) (l : TraceLine) (longest wait longest' : ℕ) → i < length lines → l ≡ get_or lines i l
    → longest ≡ longest_from kept 0 (take i lines) → wait ≡ wait_of kept i l.action → longest' ≡ max longest wait → longest' ≡ longest_from kept 0 (take (i + 1) lines)
one_waited kept lines i l longest wait longest' within here before is after =
    after ∙ ap (max longest) is ∙ ap (λ (n : ℕ). max n (wait_of kept i l.action)) before
    ∙ sym (ap (longest_from kept 0) (next_line lines i l (within, here)) ∙ longest_push kept 0 (take i lines) l i (let a = length-take-le i lines (omega arith) in omega arith))

-- no wait is longer than the lines
pub longest_within : (kept : List (Option ℕ)) (lines : List TraceLine) → longest_from kept 0 lines ≤ length lines
longest_within kept lines = let a = from_within kept 0 lines in omega arith
