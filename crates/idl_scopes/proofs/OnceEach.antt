-- Numbers of which each is there once.
use Rattle.std.proofs.Common.{◌≡◌, ◌≤◌, ◌<◌, ℕ, Bool, true, false, ◌||◌, List, [], ◌∷◌, ◌++◌, inl, inr, refl, sym, ap, subst, ◌∙◌, eqb-true, eq-eqb, arith}
use Rattle.std.specs.Prelude.{◌==◌, if◌then◌else◌}
use Rattle.std.proofs.lemmas.Bool.{or_cases, or_left, or_right}
use Rattle.std.proofs.lemmas.List.{append-nil}
use Rattle.std.proofs.lemmas.List.Folds.{list_any-append}
use Rattle.idl_scopes.specs.Each.{has, and_new, and_each, IsOnce, IsWithin}
use Rattle.idl_scopes.proofs.SharedParts.{joins}

-- several, and then others
each_both : (xs ys zs : List ℕ) → and_each xs (ys ++ zs) ≡ and_each (and_each xs ys) zs
each_both xs [] zs = refl
each_both xs (y ∷ ys) zs = each_both (and_new xs y) ys zs

once_new : (xs : List ℕ) (x : ℕ) → IsOnce xs → IsOnce (and_new xs x)
once_new xs x once = by (has xs x) refl
  where
    by : (b : Bool) → has xs x ≡ b → IsOnce (if b then xs else xs ++ x ∷ [])
    by true is = once
    by false is = each_both [] xs (x ∷ []) ∙ ap (λ (ys : List ℕ). and_new ys x) once ∙ ap (λ b. if b then xs else xs ++ x ∷ []) is

once_each : (xs ys : List ℕ) → IsOnce xs → IsOnce (and_each xs ys)
once_each xs [] once = once
once_each xs (y ∷ ys) once = once_each (and_new xs y) ys (once_new xs y once)

-- one more base
pub once_more : (xs ys whole : List ℕ) → IsOnce xs → whole ≡ and_each xs ys → IsOnce whole
once_more xs ys whole once is = subst IsOnce (sym is) (once_each xs ys once)

within_new : (l m : ℕ) (xs : List ℕ) (x : ℕ) → (l ≤ x) × (x ≤ m) → IsWithin l m xs → IsWithin l m (and_new xs x)
within_new l m xs x here within = by (has xs x)
  where
    last : (n : ℕ) → has (x ∷ []) n ≡ true → (l ≤ n) × (n ≤ m)
    last n there = elim (or_cases (n == x) false there) [
      | inl h ↦ subst (λ (k : ℕ). (l ≤ k) × (k ≤ m)) (sym (eqb-true n x h)) here
      | inr h ↦ absurd cc
    ]

    behind : IsWithin l m (xs ++ x ∷ [])
    behind n there = elim (or_cases (has xs n) (has (x ∷ []) n) (sym (list_any-append (λ y. n == y) xs (x ∷ [])) ∙ there)) [
      | inl h ↦ within n h
      | inr h ↦ last n h
    ]

    by : (b : Bool) → IsWithin l m (if b then xs else xs ++ x ∷ [])
    by true = within
    by false = behind

within_each : (l m : ℕ) (xs ys : List ℕ) → IsWithin l m xs → IsWithin l m ys → IsWithin l m (and_each xs ys)
within_each l m xs [] front back = front
within_each l m xs (y ∷ ys) front back =
    within_each l m (and_new xs y) ys (within_new l m xs y (back y (or_left (y == y) (has ys y) (eq-eqb y y refl))) front) (λ n h. back n (or_right (n == y) (has ys n) h))

within_more : (l m l' m' : ℕ) (xs : List ℕ) → l' ≤ l → m ≤ m' → IsWithin l m xs → IsWithin l' m' xs
within_more l m l' m' xs low high within = λ n h. let e = within n h in (omega (arith, low, e.0), omega (arith, high, e.1))

within_front : (l m s : ℕ) (xs : List ℕ) → (l ≤ s) × (s ≤ m) → IsWithin l m xs → IsWithin l m (s ∷ xs)
within_front l m s xs here within = λ n there. elim (or_cases (n == s) (has xs n) there) [
  | inl h ↦ subst (λ (k : ℕ). (l ≤ k) × (k ≤ m)) (sym (eqb-true n s h)) here
  | inr h ↦ within n h
]

pub within_next : (l m l' m' s least most : ℕ) (xs ys whole : List ℕ) → IsWithin l m xs → IsWithin l' m' ys → (least ≤ l) × (m ≤ most) → (least ≤ l') × (m' ≤ most) → (least ≤ s) × (s ≤ most) → whole ≡ and_each xs (s ∷ ys)
    → IsWithin least most whole
within_next l m l' m' s least most xs ys whole front back mine theirs own is =
    subst (IsWithin least most) (sym is)
    (within_each least most xs (s ∷ ys) (within_more l m least most xs mine.0 mine.1 front) (within_front least most s ys own (within_more l' m' least most ys theirs.0 theirs.1 back)))

new_apart : (front before : List ℕ) (y : ℕ) → has front y ≡ false → and_new (front ++ before) y ≡ front ++ and_new before y
new_apart front before y other = ap (λ b. if b then front ++ before else (front ++ before) ++ y ∷ []) (list_any-append (λ z. y == z) front before ∙ ap (λ b. b || has before y) other) ∙ by (has before y)
  where
    by : (b : Bool) → (if b then front ++ before else (front ++ before) ++ y ∷ []) ≡ front ++ (if b then before else before ++ y ∷ [])
    by true = refl
    by false = joins front before (y ∷ [])

each_apart : (front before ys : List ℕ) → ((n : ℕ) → has ys n ≡ true → has front n ≡ false) → and_each (front ++ before) ys ≡ front ++ and_each before ys
each_apart front before [] apart = refl
each_apart front before (y ∷ ys) apart =
    ap (λ (zs : List ℕ). and_each zs ys) (new_apart front before y (apart y (or_left (y == y) (has ys y) (eq-eqb y y refl))))
    ∙ each_apart front (and_new before y) ys (λ n h. apart n (or_right (n == y) (has ys n) h))

above : (l m : ℕ) (xs : List ℕ) (n : ℕ) → IsWithin l m xs → m < n → has xs n ≡ false
above l m xs n within lt = by (has xs n) refl
  where
    by : (b : Bool) → has xs n ≡ b → b ≡ false
    by true is = let e = (within n is).1 in absurd (omega (arith, lt, e))
    by false is = refl

-- a list whose scopes all are above those before it, and below the one before it
pub all_above : (l m l' m' s : ℕ) (xs ys : List ℕ) → IsWithin l m xs → IsWithin l' m' ys → IsOnce ys → m < s → m < l' → m' < s → and_each xs (s ∷ ys) ≡ xs ++ s ∷ ys
all_above l m l' m' s xs ys front back once own low high =
    ap (λ (zs : List ℕ). and_each zs (s ∷ ys)) (sym (append-nil xs))
    ∙ each_apart xs [] (s ∷ ys) new
    ∙ ap (λ (zs : List ℕ). xs ++ zs) (each_apart (s ∷ []) [] ys lower ∙ ap (λ (zs : List ℕ). s ∷ zs) once)
  where
    new : (n : ℕ) → has (s ∷ ys) n ≡ true → has xs n ≡ false
    new n there = elim (or_cases (n == s) (has ys n) there) [
      | inl h ↦ above l m xs n front (subst (λ (k : ℕ). m < k) (sym (eqb-true n s h)) own)
      | inr h ↦ (let e = (back n h).0 in above l m xs n front (omega (arith, low, e)))
    ]

    lower : (n : ℕ) → has ys n ≡ true → has (s ∷ []) n ≡ false
    lower n there = by (n == s) refl
      where
        by : (b : Bool) → (n == s) ≡ b → (b || false) ≡ false
        by true is = let e = eqb-true n s is in let f = (back n there).1 in absurd (omega (arith, high, e, f))
        by false is = refl
