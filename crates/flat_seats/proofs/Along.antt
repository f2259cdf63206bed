-- What each step keeps holds after each legal and fit history.
use Rattle.std.proofs.Common.{◌≡◌, ℕ, Bool, true, List, [], ◌∷◌, ◌++◌, inl, inr, sym, subst, append-nil, append_assoc}
use Rattle.std.proofs.lemmas.Bool.{cases_eq}
use Rattle.turn_cell.specs.declared.entry.Entry.{Entry}
use Rattle.turn_cell.specs.History.{of, replay, Legal, FitFrom}
use Rattle.flat_seats.proofs.Own.{of_mine, of_other}

module _ {O C R : Type 0} (ready : O → C → Bool) (sound : O → C → Type 0) (step : O → C → O × R) where
  -- by legal histories alone
  pub along_legal : (Inv : List (Entry O C R) → O → Type 0)
      → ((h : List (Entry O C R)) (s : O) (e : Entry O C R) → Inv h s → ready s e.call ≡ true → sound s e.call → e.reply ≡ (step s e.call).1 → Inv (h ++ e ∷ []) (step s e.call).0)
      → (before h : List (Entry O C R)) (s : O) → Inv before s → Legal ready sound step s h → Inv (before ++ h) (replay step s h)
  along_legal Inv keeps before [] s i l = subst (λ (z : List (Entry O C R)). Inv z s) (sym (append-nil before)) i
  along_legal Inv keeps before (e ∷ es) s i l = subst (λ (z : List (Entry O C R)). Inv z (replay step (step s e.call).0 es)) (append_assoc before (e ∷ []) es)
      (along_legal Inv keeps (before ++ e ∷ []) es (step s e.call).0 (keeps before s e i l.0 l.1 l.2) l.3)

  -- the entries before a place of a legal history, and the entry there
  pub legal_prefix : (s : O) (before after : List (Entry O C R)) → Legal ready sound step s (before ++ after) → Legal ready sound step s before
  legal_prefix s [] after l = tt
  legal_prefix s (e ∷ es) after l = (l.0, l.1, l.2, legal_prefix (step s e.call).0 es after l.3)

  pub legal_at : (s : O) (before after : List (Entry O C R)) (e : Entry O C R) → Legal ready sound step s (before ++ e ∷ after)
      → (ready (replay step s before) e.call ≡ true) × sound (replay step s before) e.call × (e.reply ≡ (step (replay step s before) e.call).1)
  legal_at s [] after e l = (l.0, l.1, l.2)
  legal_at s (d ∷ ds) after e l = legal_at (step s d.call).0 ds after e l.3

  pub ready_at : (s : O) (before after : List (Entry O C R)) (e : Entry O C R) → Legal ready sound step s (before ++ e ∷ after) → ready (replay step s before) e.call ≡ true
  ready_at s before after e l = (legal_at s before after e l).0

  pub sound_at : (s : O) (before after : List (Entry O C R)) (e : Entry O C R) → Legal ready sound step s (before ++ e ∷ after) → sound (replay step s before) e.call
  sound_at s before after e l = (legal_at s before after e l).1

  pub answered_at : (s : O) (before after : List (Entry O C R)) (e : Entry O C R) → Legal ready sound step s (before ++ e ∷ after) → e.reply ≡ (step (replay step s before) e.call).1
  answered_at s before after e l = (legal_at s before after e l).2

  module _ (fit : O → ℕ → List (Entry O C R) → C → Type 0) (opening : O) where
    -- by legal histories in which each call was fit
    pub along : (Inv : List (Entry O C R) → O → Type 0)
        → ((h : List (Entry O C R)) (s : O) (e : Entry O C R) → Inv h s → ready s e.call ≡ true → sound s e.call → e.reply ≡ (step s e.call).1 → fit opening e.caller (of e.caller h) e.call → Inv (h ++ e ∷ []) (step s e.call).0)
        → (before h : List (Entry O C R)) (s : O) → Inv before s → Legal ready sound step s h → FitFrom fit opening before h → Inv (before ++ h) (replay step s h)
    along Inv keeps before [] s i l f = subst (λ (z : List (Entry O C R)). Inv z s) (sym (append-nil before)) i
    along Inv keeps before (e ∷ es) s i l f = subst (λ (z : List (Entry O C R)). Inv z (replay step (step s e.call).0 es)) (append_assoc before (e ∷ []) es)
        (along Inv keeps (before ++ e ∷ []) es (step s e.call).0 (keeps before s e i l.0 l.1 l.2 f.0) l.3 f.1)

module _ {O C R : Type 0} (fit : O → ℕ → List (Entry O C R) → C → Type 0) (opening : O) where
  -- what each caller's fit calls keep holds of its own entries
  pub fit_along : (P : ℕ → List (Entry O C R) → Type 0) → ((n : ℕ) (mine : List (Entry O C R)) (e : Entry O C R) → fit opening n mine e.call → P n mine → P n (mine ++ e ∷ []))
      → (before h : List (Entry O C R)) → ((n : ℕ) → P n (of n before)) → FitFrom fit opening before h → (n : ℕ) → P n (of n (before ++ h))
  fit_along P keeps before [] p f n = subst (λ (z : List (Entry O C R)). P n (of n z)) (sym (append-nil before)) (p n)
  fit_along P keeps before (e ∷ es) p f n = subst (λ (z : List (Entry O C R)). P n (of n z)) (append_assoc before (e ∷ []) es)
      (fit_along P keeps (before ++ e ∷ []) es (λ k. elim (cases_eq e.caller k) [
        | inl same ↦ subst (P k) (sym (of_mine k before e same)) (keeps k (of k before) e (subst (λ (z : ℕ). fit opening z (of z before) e.call) same f.0) (p k))
        | inr differs ↦ subst (P k) (sym (of_other k before e differs)) (p k)
      ]) f.1 n)

  -- a fit call more
  pub fit_push : (before h : List (Entry O C R)) (e : Entry O C R) → FitFrom fit opening before h → fit opening e.caller (of e.caller (before ++ h)) e.call → FitFrom fit opening before (h ++ e ∷ [])
  fit_push before [] e f g = (subst (λ (z : List (Entry O C R)). fit opening e.caller (of e.caller z) e.call) (append-nil before) g, tt)
  fit_push before (d ∷ ds) e f g = (f.0, fit_push (before ++ d ∷ []) ds e f.1 (subst (λ (z : List (Entry O C R)). fit opening e.caller (of e.caller z) e.call) (sym (append_assoc before (d ∷ []) ds)) g))
