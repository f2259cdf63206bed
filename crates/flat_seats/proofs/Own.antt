-- A caller's own entries in a history that has one entry more.
use Rattle.std.proofs.Common.{◌≡◌, ℕ, ◌+◌, ◌≤◌, Bool, true, false, cond, ◌==◌, ◌||◌, if◌then◌else◌, List, [], ◌∷◌, ◌++◌, ◌⊎◌, inl, inr, sym, refl, ap, ◌∙◌, arith, eq-eqb, ne_eqb}
use Rattle.std.specs.List.{list_any, count_by}
use Rattle.std.proofs.lemmas.Bool.{cases_eq, cases_Bool, both_ways, or_from, or_left, or_right, or_cases}
use Rattle.std.proofs.lemmas.List.Sums.{sum_by_push}
use Rattle.std.proofs.lemmas.List.Folds.{list_any-append}
use Rattle.turn_cell.specs.declared.entry.Entry.{Entry}
use Rattle.turn_cell.specs.History.{of}

last : (b : Bool) → (b || false) ≡ true → b ≡ true
last true q = refl
last false q = q

module _ {O C R : Type 0} where
  pub of_mine : (n : ℕ) (h : List (Entry O C R)) (e : Entry O C R) → e.caller ≡ n → of n (h ++ e ∷ []) ≡ of n h ++ e ∷ []
  of_mine n [] e c = ap (λ (b : Bool). if b then e ∷ [] else []) (eq-eqb e.caller n c)
  of_mine n (d ∷ ds) e c = elim (d.caller == n) as (λ (b : Bool). (if b then d ∷ of n (ds ++ e ∷ []) else of n (ds ++ e ∷ [])) ≡ (if b then d ∷ of n ds else of n ds) ++ e ∷ [])
      [ true ↦ ap (λ (l : List (Entry O C R)). d ∷ l) (of_mine n ds e c) | false ↦ of_mine n ds e c ]

  pub of_other : (n : ℕ) (h : List (Entry O C R)) (e : Entry O C R) → (e.caller ≡ n → ⊥) → of n (h ++ e ∷ []) ≡ of n h
  of_other n [] e c = ap (λ (b : Bool). if b then e ∷ [] else []) (ne_eqb e.caller n c)
  of_other n (d ∷ ds) e c = ap (λ (l : List (Entry O C R)). if d.caller == n then d ∷ l else l) (of_other n ds e c)

module _ {O C R : Type 0} (p : Entry O C R → Bool) where
  -- whether some entry is such a one
  pub any_push : (h : List (Entry O C R)) (e : Entry O C R) → list_any p (h ++ e ∷ []) ≡ (list_any p h || (p e || false))
  any_push h e = list_any-append p h (e ∷ [])

  pub push_quiet : (h : List (Entry O C R)) (e : Entry O C R) → p e ≡ false → list_any p (h ++ e ∷ []) ≡ list_any p h
  push_quiet [] e q = or_from (p e) false q refl
  push_quiet (d ∷ ds) e q = ap (λ (b : Bool). p d || b) (push_quiet ds e q)

  pub push_grow : (h : List (Entry O C R)) (e : Entry O C R) → list_any p h ≡ true → list_any p (h ++ e ∷ []) ≡ true
  push_grow h e q = any_push h e ∙ or_left (list_any p h) (p e || false) q

  pub push_own : (h : List (Entry O C R)) (e : Entry O C R) → p e ≡ true → list_any p (h ++ e ∷ []) ≡ true
  push_own h e q = any_push h e ∙ or_right (list_any p h) (p e || false) (or_left (p e) false q)

  pub push_back : (h : List (Entry O C R)) (e : Entry O C R) → list_any p (h ++ e ∷ []) ≡ true → (list_any p h ≡ true) ⊎ (p e ≡ true)
  push_back h e q = elim (or_cases (list_any p h) (p e || false) (sym (any_push h e) ∙ q)) [ inl a ↦ inl a | inr a ↦ inr (last (p e) a) ]

  -- of a caller's own entries
  pub quiet : (n : ℕ) (h : List (Entry O C R)) (e : Entry O C R) → p e ≡ false → list_any p (of n (h ++ e ∷ [])) ≡ list_any p (of n h)
  quiet n h e q = elim (cases_eq e.caller n) [
    | inl c ↦ ap (list_any p) (of_mine n h e c) ∙ push_quiet (of n h) e q
    | inr d ↦ ap (list_any p) (of_other n h e d)
  ]

  pub grow : (n : ℕ) (h : List (Entry O C R)) (e : Entry O C R) → list_any p (of n h) ≡ true → list_any p (of n (h ++ e ∷ [])) ≡ true
  grow n h e q = elim (cases_eq e.caller n) [
    | inl c ↦ ap (list_any p) (of_mine n h e c) ∙ push_grow (of n h) e q
    | inr d ↦ ap (list_any p) (of_other n h e d) ∙ q
  ]

  pub own : (n : ℕ) (h : List (Entry O C R)) (e : Entry O C R) → e.caller ≡ n → p e ≡ true → list_any p (of n (h ++ e ∷ [])) ≡ true
  own n h e c q = ap (list_any p) (of_mine n h e c) ∙ push_own (of n h) e q

  pub back : (n : ℕ) (h : List (Entry O C R)) (e : Entry O C R) → list_any p (of n (h ++ e ∷ [])) ≡ true → (list_any p (of n h) ≡ true) ⊎ ((e.caller ≡ n) × (p e ≡ true))
  back n h e q = elim (cases_eq e.caller n) [
    | inl c ↦ elim (push_back (of n h) e (ap (list_any p) (sym (of_mine n h e c)) ∙ q)) [ inl a ↦ inl a | inr a ↦ inr (c, a) ]
    | inr d ↦ inl (ap (list_any p) (sym (of_other n h e d)) ∙ q)
  ]

  pub still_false : (n : ℕ) (h : List (Entry O C R)) (e : Entry O C R) → list_any p (of n h) ≡ false → (p e ≡ true → ⊥) → list_any p (of n (h ++ e ∷ [])) ≡ false
  still_false n h e was not_it = elim (cases_Bool (list_any p (of n (h ++ e ∷ [])))) [
    | inl t ↦ elim (back n h e t) [ inl a ↦ absurd (both_ways (list_any p (of n h)) was a) | inr a ↦ absurd (not_it a.1) ]
    | inr f ↦ f
  ]

  -- how many are such
  pub count_push : (h : List (Entry O C R)) (e : Entry O C R) → count_by p (h ++ e ∷ []) ≡ count_by p h + cond (p e) 1 0
  count_push h e = sum_by_push (λ (x : Entry O C R). cond (p x) 1 0) h e

  pub count_grow : (n : ℕ) (h : List (Entry O C R)) (e : Entry O C R) → count_by p (of n h) ≤ count_by p (of n (h ++ e ∷ []))
  count_grow n h e = elim (cases_eq e.caller n) [
    | inl c ↦ (let a = count_push (of n h) e in let b : count_by p (of n (h ++ e ∷ [])) ≡ count_by p (of n h ++ e ∷ []) = ap (count_by p) (of_mine n h e c) in omega arith)
    | inr d ↦ (let b : count_by p (of n (h ++ e ∷ [])) ≡ count_by p (of n h) = ap (count_by p) (of_other n h e d) in omega arith)
  ]
