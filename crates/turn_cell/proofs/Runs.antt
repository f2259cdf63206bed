-- What a history is after one more call, and what a try of a call leaves.
use Rattle.std.proofs.Common.{◌≡◌, ℕ, ◌+◌, ◌<◌, ◌≤◌, ◌==◌, Bool, true, false, if◌then◌else◌, List, [], ◌∷◌, ◌++◌, length, sym, refl, ap, ◌∙◌, subst, arith, eq-eqb, append-nil, append_assoc, length-append}
use Rattle.std.proofs.lemmas.Option.{same_Some}
use Rattle.turn_cell.specs.declared.entry.Entry.{Entry}
use Rattle.turn_cell.specs.declared.board.Core.{Core}
use Rattle.turn_cell.specs.declared.board.Known.{Known}
use Rattle.turn_cell.specs.declared.board.Terms.{Terms}
use Rattle.turn_cell.specs.declared.tried.Tried.{Tried}
use Rattle.turn_cell.specs.declared.tried.Tried.TheVariants.{Replied, Worn, NotYet}
use Rattle.turn_cell.specs.History.{of, StartsWith, replay, Legal, FitFrom}
use Rattle.turn_cell.specs.Views.{looking, resting, own}
use Rattle.turn_cell.specs.Good.{Good, entry}
use Rattle.turn_cell.specs.Steps.{Learns, MayGo}
use Rattle.turn_cell.specs.Tries.{Unchanged, Ran, Sits, Looked, Tries}

module _ {O C R : Type 0} where
  of_same : (n : ℕ) (h : List (Entry O C R)) (call : C) (reply : R) → of n (h ++ entry n call reply ∷ []) ≡ of n h ++ entry n call reply ∷ []
  of_same n [] call reply = ap (λ (b : Bool). if b then entry n call reply ∷ [] else []) (eq-eqb n n refl)
  of_same n (e ∷ es) call reply = elim (e.caller == n) as (λ (b : Bool). (if b then e ∷ of n (es ++ entry n call reply ∷ []) else of n (es ++ entry n call reply ∷ [])) ≡ (if b then e ∷ of n es else of n es) ++ entry n call reply ∷ [])
      [ true ↦ ap (λ l. e ∷ l) (of_same n es call reply) | false ↦ of_same n es call reply ]

  replay_snoc : (step : O → C → O × R) (x : O) (h : List (Entry O C R)) (e : Entry O C R) → replay step x (h ++ e ∷ []) ≡ (step (replay step x h) e.call).0
  replay_snoc step x [] e = refl
  replay_snoc step x (d ∷ ds) e = replay_snoc step (step x d.call).0 ds e

  Legal_snoc : (ready : O → C → Bool) (sound : O → C → Type 0) (step : O → C → O × R) (x : O) (h : List (Entry O C R)) (e : Entry O C R) → Legal ready sound step x h
      → ready (replay step x h) e.call ≡ true → sound (replay step x h) e.call → e.reply ≡ (step (replay step x h) e.call).1 → Legal ready sound step x (h ++ e ∷ [])
  Legal_snoc ready sound step x [] e l r s p = (r, s, p, tt)
  Legal_snoc ready sound step x (d ∷ ds) e l r s p = (l.0, l.1, l.2, Legal_snoc ready sound step (step x d.call).0 ds e l.3 r s p)

  Fit_snoc : (fit : O → ℕ → List (Entry O C R) → C → Type 0) (x : O) (before h : List (Entry O C R)) (e : Entry O C R) → FitFrom fit x before h → fit x e.caller (of e.caller (before ++ h)) e.call → FitFrom fit x before (h ++ e ∷ [])
  Fit_snoc fit x before [] e f g = (subst (λ (z : List (Entry O C R)). fit x e.caller (of e.caller z) e.call) (append-nil before) g, tt)
  Fit_snoc fit x before (d ∷ ds) e f g = (f.0, Fit_snoc fit x (before ++ d ∷ []) ds e f.1 (subst (λ (z : List (Entry O C R)). fit x e.caller (of e.caller z) e.call) (sym (append_assoc before (d ∷ []) ds)) g))

  length_snoc : (h : List (Entry O C R)) (e : Entry O C R) → length (h ++ e ∷ []) ≡ length h + 1
  length_snoc h e = omega (arith, length-append h (e ∷ []))

module _ {O C R : Type 0} (ready : O → C → Bool) (sound : O → C → Type 0) (step : O → C → O × R) (opens : O → Type 0) (fit : O → ℕ → List (Entry O C R) → C → Type 0) (x : Terms O) (n : ℕ) (call : C) where
  -- a good history stays good with one more call, ready, sound and fit, and step's reply
  grows : (h : List (Entry O C R)) (reply : R) → Good ready sound step opens fit x h → ready (replay step x.opening h) call ≡ true → sound (replay step x.opening h) call
      → reply ≡ (step (replay step x.opening h) call).1 → fit x.opening n (of n h) call → length h < x.length → Good ready sound step opens fit x (h ++ entry n call reply ∷ [])
  grows h reply good r s p f room = (good.0, Legal_snoc ready sound step x.opening h (entry n call reply) good.1 r s p, Fit_snoc fit x.opening [] h (entry n call reply) good.2 f, omega (arith, length_snoc h (entry n call reply)))

  same_goes : (v : Known O C R) (h : List (Entry O C R)) (core core' : Core O C R) → Sits ready sound step opens fit x n v → Learns ready sound step opens fit v h core → Unchanged core core' → MayGo ready sound step opens fit (looking v h) core'
  same_goes v h core core' sits learns same = let l = learns.1 x n sits.0 sits.1 in let fresh = l.1 in let items : core'.history.list.items ≡ h = same.1 ∙ fresh.0 in (
    x,
    n,
    sits.0,
    sits.1,
    subst (Good ready sound step opens fit x) (sym items) l.0,
    ([], items ∙ sym (append-nil h), tt),
    (refl, same.2 ∙ fresh.1, same.0 ∙ (fresh.2 ∙ ap (replay step x.opening) (sym items))),
  )

  sits_still : (v : Known O C R) (h : List (Entry O C R)) (core' : Core O C R) → Sits ready sound step opens fit x n v → MayGo ready sound step opens fit (looking v h) core' → Sits ready sound step opens fit x n (resting (looking v h) core'.history.list.items)
  sits_still v h core' sits may = let op : may.0 ≡ x = same_Some _ _ (sym may.2 ∙ sits.0) in
      (sits.0, sits.1, subst (λ (z : Terms O). Good ready sound step opens fit z core'.history.list.items) op may.4, ap (λ o. own o core'.history.list.items) sits.1, refl)

  looked : (v : Known O C R) (h : List (Entry O C R)) (core' : Core O C R) → Sits ready sound step opens fit x n v → (core : Core O C R) → Learns ready sound step opens fit v h core → MayGo ready sound step opens fit (looking v h) core'
      → core'.history.list.items ≡ h → Looked ready sound step opens fit x n v (resting (looking v h) core'.history.list.items)
  looked v h core' sits core learns may items = let l = learns.1 x n sits.0 sits.1 in let s = sits_still v h core' sits may in
      (s, subst (λ z. StartsWith z v.seen) (sym items) learns.0, s.3 ∙ (ap (of n) items ∙ sym l.2), (refl, refl))

  pub goes : (v : Known O C R) (h : List (Entry O C R)) (core core' : Core O C R) (t : Tried O C R) → Sits ready sound step opens fit x n v → Learns ready sound step opens fit v h core
      → (ready core.object call ≡ true → sound core.object call) → fit x.opening n v.mine call → Ran ready step n call core core' t → MayGo ready sound step opens fit (looking v h) core'
  goes v h core core' (Replied r) sits learns sure f ran = let l = learns.1 x n sits.0 sits.1 in let fresh = l.1 in let items : core'.history.list.items ≡ h ++ entry n call r ∷ [] = ran.4 ∙ ap (λ z. z ++ entry n call r ∷ []) fresh.0 in
      let at : core.object ≡ replay step x.opening h = fresh.2 in let room : length h < x.length = subst (λ (z : ℕ × ℕ). z.0 < z.1) (λ i. (length (fresh.0 i), fresh.1 i)) ran.1 in (
        x,
        n,
        sits.0,
        sits.1,
        subst (Good ready sound step opens fit x) (sym items) (grows h r l.0 (ap (λ o. ready o call) (sym at) ∙ ran.0) (subst (λ o. sound o call) at (sure ran.0)) (ran.3 ∙ ap (λ o. (step o call).1) at) (subst (λ m. fit x.opening n m call) l.2 f) room),
        (entry n call r ∷ [], items, (refl, tt)),
        (refl, ran.5 ∙ fresh.1, ran.2 ∙ (ap (λ o. (step o call).0) at ∙ (sym (replay_snoc step x.opening h (entry n call r)) ∙ ap (replay step x.opening) (sym items)))),
      )
  goes v h core core' (Worn c) sits learns sure f ran = same_goes v h core core' sits learns ran.1
  goes v h core core' (NotYet c hold) sits learns sure f ran = same_goes v h core core' sits learns ran.1

  pub tells : (v : Known O C R) (h : List (Entry O C R)) (core core' : Core O C R) (t : Tried O C R) → Sits ready sound step opens fit x n v → Learns ready sound step opens fit v h core
      → MayGo ready sound step opens fit (looking v h) core' → Ran ready step n call core core' t → Tries ready sound step opens fit x n call v (resting (looking v h) core'.history.list.items) t
  tells v h core core' (Replied r) sits learns may ran = let l = learns.1 x n sits.0 sits.1 in let fresh = l.1 in let items : core'.history.list.items ≡ h ++ entry n call r ∷ [] = ran.4 ∙ ap (λ z. z ++ entry n call r ∷ []) fresh.0 in
      let s = sits_still v h core' sits may in (
        s,
        (learns.0.0, items ∙ ap (λ z. z ++ entry n call r ∷ []) learns.0.1),
        s.3 ∙ (ap (of n) items ∙ (of_same n h call r ∙ ap (λ z. z ++ entry n call r ∷ []) (sym l.2))),
        (refl, refl),
      )
  tells v h core core' (Worn c) sits learns may ran = let l = learns.1 x n sits.0 sits.1 in let good = l.0 in let fresh = l.1 in let items : core'.history.list.items ≡ h = ran.1.1 ∙ fresh.0 in
      let most : x.length ≤ length h = subst (λ (z : ℕ × ℕ). z.0 ≤ z.1) (λ i. (fresh.1 i, length (fresh.0 i))) ran.2 in let least : length h ≤ x.length = good.3 in
      (ran.0, looked v h core' sits core learns may items, ap length items ∙ omega arith)
  tells v h core core' (NotYet c hold) sits learns may ran = let l = learns.1 x n sits.0 sits.1 in (ran.0, looked v h core' sits core learns may (ran.1.1 ∙ l.1.0))

  pub looks_none : (v : Known O C R) → Sits ready sound step opens fit x n v → Looked ready sound step opens fit x n v v
  looks_none v sits = (sits, ([], sym (append-nil v.seen)), refl, (refl, refl))

  -- what a caller can see is enough for the call to be sound
  pub sound_here : ((opening : O) (h : List (Entry O C R)) (k : ℕ) (c : C) → opens opening → Legal ready sound step opening h → FitFrom fit opening [] h → fit opening k (of k h) c → sound (replay step opening h) c)
      → (v : Known O C R) (h : List (Entry O C R)) (core : Core O C R) → Sits ready sound step opens fit x n v → Learns ready sound step opens fit v h core → fit x.opening n v.mine call → sound core.object call
  sound_here enough v h core sits learns f = let l = learns.1 x n sits.0 sits.1 in let good = l.0 in
      subst (λ o. sound o call) (sym l.1.2) (enough x.opening h n call good.0 good.1 good.2 (subst (λ m. fit x.opening n m call) l.2 f))
