-- Beginnings of one history.
use Rattle.std.proofs.Common.{◌≡◌, ℕ, zero, suc, ◌+◌, ◌<◌, ◌≤◌, ◌==◌, ⊎_elim, Bool, true, false, if◌then◌else◌, List, [], ◌∷◌, ◌++◌, length, take, drop, sym, refl, ap, ◌∙◌, arith, append-nil, length-append, take-append-drop}
use Rattle.std.specs.Prelude.{nat_le}
use Rattle.std.proofs.Math.Dec.{leb}
use Rattle.std.proofs.lemmas.Bool.{leb-true}
use Rattle.std.proofs.lemmas.Bool.Decides.{leb_tells}
use Rattle.turn_cell.proofs.Keeps.{true-ne-false}
use Rattle.turn_cell.specs.declared.entry.Entry.{Entry}
use Rattle.turn_cell.specs.History.{of, StartsWith, Legal, FitFrom}
use Rattle.turn_cell.specs.Views.{longer}

module _ {A : Type 0} where
  take_own : (a r : List A) → take (length a) (a ++ r) ≡ a
  take_own [] r = refl
  take_own (x ∷ xs) r = ap (λ l. x ∷ l) (take_own xs r)

  take_short : (n : ℕ) (a r : List A) → n ≤ length a → take n (a ++ r) ≡ take n a
  take_short zero a r le = refl
  take_short (suc n) [] r le = absurd (omega arith)
  take_short (suc n) (x ∷ xs) r le = ap (λ l. x ∷ l) (take_short n xs r (omega arith))

  pub no_rest : (a r : List A) → length r ≡ 0 → a ++ r ≡ a
  no_rest a [] e = append-nil a
  no_rest a (x ∷ xs) e = absurd (omega arith)

le_true : (m n : ℕ) → nat_le m n ≡ true → m ≤ n
le_true m n e = leb-true m n e

le_false : (m n : ℕ) → nat_le m n ≡ false → n ≤ m
le_false m n e = ⊎_elim (λ (t : (leb m n ≡ true) × (m ≤ n)). absurd (true-ne-false (sym t.0 ∙ e))) (λ (t : (leb m n ≡ false) × (n < m)). let l = t.1 in omega arith) (leb_tells m n)

module _ {O C R : Type 0} where
  -- of two beginnings of one list, the shorter begins the longer
  begins : (h a b : List (Entry O C R)) → StartsWith h a → StartsWith h b → length b ≤ length a → StartsWith a b
  begins h a b p q le = let same : take (length b) a ≡ b = sym (take_short (length b) a p.0 le) ∙ (ap (take (length b)) (sym p.1 ∙ q.1) ∙ take_own b q.0) in
      (drop (length b) a, sym (take-append-drop (length b) a) ∙ ap (λ z. z ++ drop (length b) a) same)

  pub longer_begins : (h a b : List (Entry O C R)) → StartsWith h a → StartsWith h b → StartsWith (longer a b) a × StartsWith (longer a b) b
  longer_begins h a b p q = let cut : (t : Bool) → nat_le (length b) (length a) ≡ t → StartsWith (if t then a else b) a × StartsWith (if t then a else b) b = elim [
    | true ↦ λ e. (([], sym (append-nil a)), begins h a b p q (le_true (length b) (length a) e))
    | false ↦ λ e. (begins h b a q p (le_false (length b) (length a) e), ([], sym (append-nil b)))
  ] in cut (nat_le (length b) (length a)) refl

  pub of_append : (n : ℕ) (a b : List (Entry O C R)) → of n (a ++ b) ≡ of n a ++ of n b
  of_append n [] b = refl
  of_append n (e ∷ es) b = elim (e.caller == n) as (λ (t : Bool). (if t then e ∷ of n (es ++ b) else of n (es ++ b)) ≡ (if t then e ∷ of n es else of n es) ++ of n b)
      [ true ↦ ap (λ l. e ∷ l) (of_append n es b) | false ↦ of_append n es b ]

  -- a beginning that has as many of a caller's calls as the whole has all of them
  pub of_begins : (n : ℕ) (h z a : List (Entry O C R)) → StartsWith h z → StartsWith z a → length (of n h) ≤ length (of n a) → of n h ≡ of n z
  of_begins n h z a p q le = let whole : of n h ≡ of n z ++ of n p.0 = ap (of n) p.1 ∙ of_append n z p.0 in let part : of n z ≡ of n a ++ of n q.0 = ap (of n) q.1 ∙ of_append n a q.0 in
      let l1 : length (of n h) ≡ length (of n z) + length (of n p.0) = ap length whole ∙ length-append (of n z) (of n p.0) in let l2 : length (of n z) ≡ length (of n a) + length (of n q.0) = ap length part ∙ length-append (of n a) (of n q.0) in
      whole ∙ no_rest (of n z) (of n p.0) (omega arith)

  pub Legal_begins : (ready : O → C → Bool) (sound : O → C → Type 0) (step : O → C → O × R) (x : O) (a b : List (Entry O C R)) → Legal ready sound step x (a ++ b) → Legal ready sound step x a
  Legal_begins ready sound step x [] b l = tt
  Legal_begins ready sound step x (e ∷ es) b l = (l.0, l.1, l.2, Legal_begins ready sound step (step x e.call).0 es b l.3)

  pub Fit_begins : (fit : O → ℕ → List (Entry O C R) → C → Type 0) (x : O) (before a b : List (Entry O C R)) → FitFrom fit x before (a ++ b) → FitFrom fit x before a
  Fit_begins fit x before [] b f = tt
  Fit_begins fit x before (e ∷ es) b f = (f.0, Fit_begins fit x (before ++ e ∷ []) es b f.1)
