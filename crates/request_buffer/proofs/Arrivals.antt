-- Requests in order of arrival, with one more and with one less.
use Rattle.std.proofs.Common.{◌≡◌, ℕ, zero, suc, ◌+◌, ◌<◌, ◌≤◌, Bool, true, false, cond, ltb, eqb, List, [], ◌∷◌, ◌++◌, length, Some, inl, inr, refl, sym, ap, ◌∙◌, arith, append_assoc, length-append}
use Rattle.std.specs.Prelude.{◌==◌, if◌then◌else◌, slice_get, sum_by}
use Rattle.std.proofs.lemmas.Bool.{cases_lt, eq-eqb, ne_eqb, eqb-true, lt-ltb, le-ltb}
use Rattle.std.proofs.lemmas.List.{append-nil}
use Rattle.std.proofs.lemmas.List.Sums.{sum_by-cons, sum_by-append}
use Rattle.std.proofs.lemmas.Option.{none-some, same_Some}
use Rattle.request_buffer.specs.Entries.{Entry, stamped, arrived}
use Rattle.request_buffer.proofs.ListFacts.{both_none, none_of_length, of_either}

-- those with a stamp, of two lists
pub stamped_append : (s : ℕ) (xs ys : List Entry) → stamped s (xs ++ ys) ≡ stamped s xs ++ stamped s ys
stamped_append s [] ys = refl
stamped_append s (x ∷ xs) ys =
    let rest = stamped_append s xs ys in
    elim (x.stamp == s) as (λ (b : Bool). (if b then x ∷ stamped s (xs ++ ys) else stamped s (xs ++ ys)) ≡ (if b then x ∷ stamped s xs else stamped s xs) ++ stamped s ys) [
      | true ↦ ap (λ zs. x ∷ zs) rest
      | false ↦ rest
    ]

-- one with another stamp doesn't count
pub without_other : (s : ℕ) (e : Entry) (xs ys : List Entry) → (e.stamp ≡ s → ⊥) → stamped s (xs ++ e ∷ ys) ≡ stamped s (xs ++ ys)
without_other s e xs ys differs =
    stamped_append s xs (e ∷ ys)
    ∙ ap (λ (b : Bool). stamped s xs ++ (if b then e ∷ stamped s ys else stamped s ys)) (ne_eqb e.stamp s differs)
    ∙ sym (stamped_append s xs ys)

-- the one with the stamp is between the others
with_same : (s : ℕ) (e : Entry) (xs ys : List Entry) → e.stamp ≡ s → stamped s (xs ++ e ∷ ys) ≡ stamped s xs ++ e ∷ stamped s ys
with_same s e xs ys same =
    stamped_append s xs (e ∷ ys)
    ∙ ap (λ (b : Bool). stamped s xs ++ (if b then e ∷ stamped s ys else stamped s ys)) (eq-eqb e.stamp s same)

-- it is the only one, where there was none
pub only_one : (s : ℕ) (e : Entry) (xs ys : List Entry) → e.stamp ≡ s → stamped s (xs ++ ys) ≡ [] → stamped s (xs ++ e ∷ ys) ≡ e ∷ []
only_one s e xs ys same none =
    let parts = both_none (stamped s xs) (stamped s ys) (sym (stamped_append s xs ys) ∙ none) in
    with_same s e xs ys same ∙ ap (λ zs. zs ++ e ∷ stamped s ys) parts.0 ∙ ap (λ zs. e ∷ zs) parts.1

-- without it there is none, where there was one
pub none_left : (s : ℕ) (e : Entry) (xs ys : List Entry) → e.stamp ≡ s → length (stamped s (xs ++ e ∷ ys)) ≤ 1 → stamped s (xs ++ ys) ≡ []
none_left s e xs ys same one =
    let long = length-append (stamped s xs) (e ∷ stamped s ys) in
    let all = ap length (with_same s e xs ys same) in
    let rest = length-append (stamped s xs) (stamped s ys) in
    let short : length (stamped s xs ++ stamped s ys) ≤ 0 = omega arith in
    stamped_append s xs ys ∙ none_of_length (stamped s xs ++ stamped s ys) short

-- where none has the stamp
pub none_stamped : (s : ℕ) (xs : List Entry) → ((k : ℕ) (e : Entry) → slice_get xs k ≡ Some e → e.stamp ≡ s → ⊥) → stamped s xs ≡ []
none_stamped s [] none = refl
none_stamped s (x ∷ xs) none =
    ap (λ (b : Bool). if b then x ∷ stamped s xs else stamped s xs) (ne_eqb x.stamp s (none 0 x refl))
    ∙ none_stamped s xs (λ k e g. none (suc k) e g)

-- what has a stamp is there and has it
pub stamped_in : (s : ℕ) (xs : List Entry) (k : ℕ) (e : Entry) → slice_get (stamped s xs) k ≡ Some e → (e.stamp ≡ s) × ((j : ℕ) × (slice_get xs j ≡ Some e))
stamped_in s [] k e g = absurd (none-some e g)
stamped_in s (x ∷ xs) k e g = of_test (x.stamp == s) refl k e g (stamped_in s xs)
  where
    of_test : (b : Bool) → (x.stamp == s) ≡ b → (i : ℕ) (y : Entry) → slice_get (if b then x ∷ stamped s xs else stamped s xs) i ≡ Some y
        → ((i : ℕ) (y : Entry) → slice_get (stamped s xs) i ≡ Some y → (y.stamp ≡ s) × ((j : ℕ) × (slice_get xs j ≡ Some y)))
        → (y.stamp ≡ s) × ((j : ℕ) × (slice_get (x ∷ xs) j ≡ Some y))
    of_test true is zero y f rest = (ap (λ (z : Entry). z.stamp) (sym (same_Some x y f)) ∙ eqb-true x.stamp s is, (0, f))
    of_test true is (suc i) y f rest = let j = rest i y f in (j.0, (suc j.1.0, j.1.1))
    of_test false is i y f rest = let j = rest i y f in (j.0, (suc j.1.0, j.1.1))

-- what arrived is there and has a lower stamp
pub arrived_in : (n : ℕ) (xs : List Entry) (k : ℕ) (e : Entry) → slice_get (arrived n xs) k ≡ Some e → (e.stamp < n) × ((j : ℕ) × (slice_get xs j ≡ Some e))
arrived_in zero xs k e g = absurd (none-some e g)
arrived_in (suc n) xs k e g = elim (of_either (arrived n xs) (stamped n xs) k e g) [
  | inl before ↦ (let j = arrived_in n xs k e before in (let below = j.0 in omega arith, j.1))
  | inr (i, last) ↦ (let j = stamped_in n xs i e last in (let is = j.0 in omega arith, j.1))
]

-- one with no lower stamp doesn't count
pub arrived_later : (n : ℕ) (e : Entry) (xs ys : List Entry) → n ≤ e.stamp → arrived n (xs ++ e ∷ ys) ≡ arrived n (xs ++ ys)
arrived_later zero e xs ys later = refl
arrived_later (suc n) e xs ys later =
    ap (λ zs. zs ++ stamped n (xs ++ e ∷ ys)) (arrived_later n e xs ys (omega arith))
    ∙ ap (λ zs. arrived n (xs ++ ys) ++ zs) (without_other n e xs ys (λ same. omega arith))

-- a request between those that came earlier and those that came later
pub record Between (n : ℕ) (e : Entry) (xs ys : List Entry) : Type 0 where
  pub later : List Entry
  pub without : arrived n (xs ++ ys) ≡ arrived e.stamp (xs ++ ys) ++ later
  pub together : arrived n (xs ++ e ∷ ys) ≡ arrived e.stamp (xs ++ ys) ++ e ∷ later

pub between : (n : ℕ) (e : Entry) (xs ys : List Entry) → e.stamp < n → stamped e.stamp (xs ++ ys) ≡ [] → Between n e xs ys
between zero e xs ys below none = absurd (omega arith)
between (suc n) e xs ys below none = elim (cases_lt e.stamp n) [
  | inl earlier ↦ (
      let rest = between n e xs ys earlier none in
      let first = arrived e.stamp (xs ++ ys) in
      let last = stamped n (xs ++ ys) in
      record {
        later = rest.later ++ last;
        without = ap (λ zs. zs ++ last) rest.without ∙ append_assoc first rest.later last;
        together =
            ap (λ zs. zs ++ stamped n (xs ++ e ∷ ys)) rest.together
            ∙ ap (λ zs. (first ++ e ∷ rest.later) ++ zs) (without_other n e xs ys (λ same. omega arith))
            ∙ append_assoc first (e ∷ rest.later) last;
      }
      )
  | inr last ↦ (
      let same : e.stamp ≡ n = omega arith in
      let here : arrived n (xs ++ ys) ≡ arrived e.stamp (xs ++ ys) = ap (λ (s : ℕ). arrived s (xs ++ ys)) (sym same) in
      record {
        later = [];
        without =
            ap (λ zs. zs ++ stamped n (xs ++ ys)) here
            ∙ ap (λ zs. arrived e.stamp (xs ++ ys) ++ zs) (ap (λ (s : ℕ). stamped s (xs ++ ys)) (sym same) ∙ none);
        together =
            ap (λ zs. zs ++ stamped n (xs ++ e ∷ ys)) (arrived_later n e xs ys (omega arith) ∙ here)
            ∙ ap (λ zs. arrived e.stamp (xs ++ ys) ++ zs) (only_one n e xs ys same (ap (λ (s : ℕ). stamped s (xs ++ ys)) (sym same) ∙ none));
      }
      )
]

-- no request between two numbers
pub none_between : (from upto : ℕ) (xs : List Entry) → from ≤ upto → ((s : ℕ) → from ≤ s → s < upto → stamped s xs ≡ []) → arrived upto xs ≡ arrived from xs
none_between from zero xs ordered none = ap (λ (s : ℕ). arrived s xs) (let z : 0 ≡ from = omega arith in z)
none_between from (suc upto) xs ordered none = elim (cases_lt from (suc upto)) [
  | inl more ↦ (
      ap (λ zs. arrived upto xs ++ zs) (none upto (omega arith) (omega arith))
      ∙ append-nil (arrived upto xs)
      ∙ none_between from upto xs (omega arith) (λ s above below. none s above (omega arith))
      )
  | inr same ↦ ap (λ (s : ℕ). arrived s xs) (let z : suc upto ≡ from = omega arith in z)
]

-- a sum over what arrived is one over those with lower stamps
tally_stamped : (f : Entry → ℕ) (n : ℕ) (e : Entry) (xs : List Entry) → sum_by f (stamped n (e ∷ xs)) ≡ cond (eqb e.stamp n) (f e) 0 + sum_by f (stamped n xs)
tally_stamped f n e xs =
    let more = sum_by-cons f e (stamped n xs) in
    elim (e.stamp == n) as (λ (b : Bool). sum_by f (if b then e ∷ stamped n xs else stamped n xs) ≡ cond b (f e) 0 + sum_by f (stamped n xs)) [
      | true ↦ more
      | false ↦ omega arith
    ]

tally_more : (f : Entry → ℕ) (n : ℕ) (e : Entry) (xs : List Entry) → sum_by f (arrived n (e ∷ xs)) ≡ cond (ltb e.stamp n) (f e) 0 + sum_by f (arrived n xs)
tally_more f zero e xs = let b : cond (ltb e.stamp 0) (f e) 0 ≡ 0 = ap (λ (b : Bool). cond b (f e) 0) (le-ltb e.stamp 0 (omega arith)) in omega arith
tally_more f (suc n) e xs =
    let rest = tally_more f n e xs in
    let last = tally_stamped f n e xs in
    let one = sum_by-append f (arrived n (e ∷ xs)) (stamped n (e ∷ xs)) in
    let two = sum_by-append f (arrived n xs) (stamped n xs) in
    elim (cases_lt e.stamp n) [
      | inl below ↦ (
          let b : cond (ltb e.stamp n) (f e) 0 ≡ f e = ap (λ (b : Bool). cond b (f e) 0) (lt-ltb e.stamp n below) in
          let c : cond (eqb e.stamp n) (f e) 0 ≡ 0 = ap (λ (b : Bool). cond b (f e) 0) (ne_eqb e.stamp n (λ same. omega arith)) in
          let d : cond (ltb e.stamp (suc n)) (f e) 0 ≡ f e = ap (λ (b : Bool). cond b (f e) 0) (lt-ltb e.stamp (suc n) (omega arith)) in
          omega arith
          )
      | inr above ↦ (
          let b : cond (ltb e.stamp n) (f e) 0 ≡ 0 = ap (λ (b : Bool). cond b (f e) 0) (le-ltb e.stamp n above) in
          elim (cases_lt n e.stamp) [
            | inl more ↦ (
                let c : cond (eqb e.stamp n) (f e) 0 ≡ 0 = ap (λ (b : Bool). cond b (f e) 0) (ne_eqb e.stamp n (λ same. omega arith)) in
                let d : cond (ltb e.stamp (suc n)) (f e) 0 ≡ 0 = ap (λ (b : Bool). cond b (f e) 0) (le-ltb e.stamp (suc n) (omega arith)) in
                omega arith
                )
            | inr less ↦ (
                let c : cond (eqb e.stamp n) (f e) 0 ≡ f e = ap (λ (b : Bool). cond b (f e) 0) (eq-eqb e.stamp n (omega arith)) in
                let d : cond (ltb e.stamp (suc n)) (f e) 0 ≡ f e = ap (λ (b : Bool). cond b (f e) 0) (lt-ltb e.stamp (suc n) (omega arith)) in
                omega arith
                )
          ]
          )
    ]

none_arrived : (n : ℕ) → arrived n [] ≡ []
none_arrived zero = refl
none_arrived (suc n) = ap (λ zs. zs ++ []) (none_arrived n)

pub tally : (f : Entry → ℕ) (n : ℕ) (xs : List Entry) → ((k : ℕ) (e : Entry) → slice_get xs k ≡ Some e → e.stamp < n) → sum_by f (arrived n xs) ≡ sum_by f xs
tally f n [] below = ap (sum_by f) (none_arrived n)
tally f n (x ∷ xs) below =
    let rest = tally f n xs (λ k e g. below (suc k) e g) in
    let first : cond (ltb x.stamp n) (f x) 0 ≡ f x = ap (λ (b : Bool). cond b (f x) 0) (lt-ltb x.stamp n (below 0 x refl)) in
    let all = sum_by-cons f x xs in
    tally_more f n x xs ∙ omega arith
