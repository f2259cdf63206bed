-- A history with one more entry.
use Rattle.std.proofs.Common.{◌≡◌, ℕ, ◌+◌, ◌<◌, ◌≤◌, suc, zero, Bool, true, false, cond, eqb, ◌==◌, ◌||◌, if◌then◌else◌, List, [], ◌∷◌, ◌++◌, length, Option, Some, None, inl, inr, sym, refl, ap, ◌∙◌, subst, arith, eq-eqb, ne_eqb, append-nil, append_assoc}
use Rattle.std.specs.List.{list_any, sum_by, count_by}
use Rattle.std.proofs.lemmas.Bool.{cases_eq, or_from, or_left}
use Rattle.std.proofs.lemmas.List.Sums.{sum_by_push}
use Rattle.std.proofs.lemmas.List.Folds.{list_any-append}
use Rattle.turn_cell.specs.declared.entry.Entry.{Entry}
use Rattle.turn_cell.specs.History as history
use Rattle.lane_machine.specs.declared.call.LaneCall.{LaneCall}
use Rattle.lane_machine.specs.declared.call.LaneReply.{LaneReply}
use Rattle.lane_machine.specs.Callers.{of, latest, ends, has_leave, is_end, is_leave, IsFit}
use Rattle.lane_machine.specs.State.{State}
use Rattle.lane_machine.specs.Machine.{step}
use Rattle.lane_machine.specs.Readiness.{is_ready, IsSound}
use Rattle.lane_machine.specs.Histories.{History, replay, IsLegal}

-- an entry of the lane machine
abbrev pub One : Type 0
One = Entry State LaneCall LaneReply

pub of_mine : (n : ℕ) (h : History) (e : One) → e.caller ≡ n → of n (h ++ e ∷ []) ≡ of n h ++ e ∷ []
of_mine n [] e c = ap (λ (b : Bool). if b then e ∷ [] else []) (eq-eqb e.caller n c)
of_mine n (d ∷ ds) e c = elim (d.caller == n) as (λ (b : Bool). (if b then d ∷ of n (ds ++ e ∷ []) else of n (ds ++ e ∷ [])) ≡ (if b then d ∷ of n ds else of n ds) ++ e ∷ [])
    [ true ↦ ap (λ (l : History). d ∷ l) (of_mine n ds e c) | false ↦ of_mine n ds e c ]

pub of_other : (n : ℕ) (h : History) (e : One) → (e.caller ≡ n → ⊥) → of n (h ++ e ∷ []) ≡ of n h
of_other n [] e c = ap (λ (b : Bool). if b then e ∷ [] else []) (ne_eqb e.caller n c)
of_other n (d ∷ ds) e c = ap (λ (l : History). if d.caller == n then d ∷ l else l) (of_other n ds e c)

pub latest_push : (o : Option LaneReply) (h : History) (e : One) → latest o (h ++ e ∷ []) ≡ Some e.reply
latest_push o [] e = refl
latest_push o (d ∷ ds) e = latest_push (Some d.reply) ds e

pub ends_push : (h : History) (e : One) → ends (h ++ e ∷ []) ≡ ends h + cond (is_end e.call) 1 0
ends_push h e = sum_by_push (λ (x : One). cond (is_end x.call) 1 0) h e

pub ends_grow : (n : ℕ) (h : History) (e : One) → ends (of n h) ≤ ends (of n (h ++ e ∷ []))
ends_grow n h e = elim (cases_eq e.caller n) [
  | inl c ↦ (let a = ends_push (of n h) e in let b : ends (of n (h ++ e ∷ [])) ≡ ends (of n h ++ e ∷ []) = ap ends (of_mine n h e c) in omega arith)
  | inr d ↦ (let b : ends (of n (h ++ e ∷ [])) ≡ ends (of n h) = ap ends (of_other n h e d) in omega arith)
]

pub leave_push : (h : History) (e : One) → has_leave (h ++ e ∷ []) ≡ (has_leave h || (is_leave e.call || false))
leave_push h e = list_any-append (λ (x : One). is_leave x.call) h (e ∷ [])

pub leave_grow : (n : ℕ) (h : History) (e : One) → has_leave (of n h) ≡ true → has_leave (of n (h ++ e ∷ [])) ≡ true
leave_grow n h e l = elim (cases_eq e.caller n) [
  | inl c ↦ ap has_leave (of_mine n h e c) ∙ (leave_push (of n h) e ∙ or_left (has_leave (of n h)) (is_leave e.call || false) l)
  | inr d ↦ ap has_leave (of_other n h e d) ∙ l
]

-- what each fit call of a legal history keeps holds at each of its places
pub along : (s0 : State) (Inv : History → State → Type 0)
    → ((h : History) (s : State) (e : One) → Inv h s → is_ready s e.call ≡ true → IsSound s e.call → e.reply ≡ (step s e.call).1 → IsFit s0 e.caller (of e.caller h) e.call → Inv (h ++ e ∷ []) (step s e.call).0)
    → (before h : History) (s : State) → Inv before s → IsLegal s h → history.FitFrom IsFit s0 before h → Inv (before ++ h) (replay s h)
along s0 Inv keeps before [] s i l f = subst (λ (z : History). Inv z s) (sym (append-nil before)) i
along s0 Inv keeps before (e ∷ es) s i l f = subst (λ (z : History). Inv z (replay (step s e.call).0 es)) (append_assoc before (e ∷ []) es)
    (along s0 Inv keeps (before ++ e ∷ []) es (step s e.call).0 (keeps before s e i l.0 l.1 l.2 f.0) l.3 f.1)
