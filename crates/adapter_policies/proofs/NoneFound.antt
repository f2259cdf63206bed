-- What it means that no entry was found at fault.
use Rattle.std.proofs.Common.{◌≡◌, ◌⊎◌, ◌<◌, ◌≤◌, ◌+◌, inl, inr, ℕ, zero, suc, Bool, true, false, List, [], ◌∷◌, ◌++◌, length, get_or, Option, Some, None, cond, refl, sym, subst, arith, nat_lt}
use Rattle.std.specs.List.{All, AllPairs, list_any, position, position_or_len}
use Rattle.std.specs.List.Sorted.{IsStrictlyIncreasing}
use Rattle.std.proofs.Math.Numerals.{add-one}
use Rattle.std.proofs.lemmas.Bool.Decides.{nat_tests}
use Rattle.std.proofs.lemmas.List.Elements.{All-cons, All-nil}
use Rattle.std.proofs.lemmas.List.Sums.{fails_before_first}
use Rattle.config_tables.specs.Fault.{Fault}
use Rattle.config_tables.specs.declared.fault.ConfigCause.{ConfigCause}
use Rattle.config_tables.proofs.RulesHold.{or_neither}
use Rattle.adapter_policies.specs.Found.{entry_fault, entry_key_fault, fault_where, first_clash}
use Rattle.adapter_policies.specs.PoolRelations.{out_of_order}

-- what would be a fault doesn't hold
pub nowhere : (b : Bool) (path : List ℕ) (cause : ConfigCause) → fault_where b path cause ≡ None → b ≡ false
nowhere false path cause none = refl
nowhere true path cause none = absurd (cc)

-- no entry is at fault
pub no_entry : (path : List ℕ) (cause : ConfigCause) (found : Option ℕ) → entry_fault path cause found ≡ None → found ≡ None
no_entry path cause None none = refl
no_entry path cause (Some n) none = absurd (cc)

-- no key of an entry is at fault
pub no_key : (path key : List ℕ) (cause : ConfigCause) (found : Option ℕ) → entry_key_fault path key cause found ≡ None → found ≡ None
no_key path key cause None none = refl
no_key path key cause (Some n) none = absurd (cc)

-- ---- lists

not_within : (a b : ℕ) (t : Bool) → nat_lt a b ≡ t → cond t (Some a) None ≡ None → b ≤ a
not_within a b true is none = absurd (cc)
not_within a b false is none = grind (arith, nat_tests)

-- where no position is found, the test fails of each
pub none_at : {X : Type 0} (p : X → Bool) (xs : List X) → position p xs ≡ None → All (λ x. p x ≡ false) xs
none_at {X} p xs none =
    let past : length xs ≤ position_or_len p xs = not_within (position_or_len p xs) (length xs) (nat_lt (position_or_len p xs) (length xs)) refl none in
    λ k d h. fails_before_first p xs k d (omega arith)

-- where none passes a test, it fails of each
pub none_pass : {X : Type 0} (p : X → Bool) (xs : List X) → list_any p xs ≡ false → All (λ x. p x ≡ false) xs
none_pass p [] none = All-nil _
none_pass p (x ∷ xs) none =
    let parts = or_neither (p x) (list_any p xs) none in
    All-cons (λ y. p y ≡ false) x xs parts.0 (none_pass p xs parts.1)

-- a thing is one of a list
abbrev In : {X : Type 0} → X → List X → Type 0
In e [] = ⊥
In e (y ∷ ys) = (e ≡ y) ⊎ In e ys

in_at : {X : Type 0} (xs : List X) (k : ℕ) (d : X) → k < length xs → In (get_or xs k d) xs
in_at [] k d h = absurd (omega arith)
in_at (x ∷ xs) zero d h = inl refl
in_at (x ∷ xs) (suc k) d h = inr (in_at xs k d (omega arith))

in_front : {X : Type 0} (e : X) (xs : List X) (x : X) → In e xs → In e (xs ++ x ∷ [])
in_front e [] x there = absurd there
in_front e (y ∷ ys) x (inl same) = inl same
in_front e (y ∷ ys) x (inr there) = inr (in_front e ys x there)

in_end : {X : Type 0} (xs : List X) (x : X) → In x (xs ++ x ∷ [])
in_end [] x = inl refl
in_end (y ∷ ys) x = inr (in_end ys x)

fails_of : {X : Type 0} (p : X → Bool) (xs : List X) (e : X) → list_any p xs ≡ false → In e xs → p e ≡ false
fails_of p [] e none there = absurd there
fails_of p (y ∷ ys) e none (inl same) = subst (λ x. p x ≡ false) (sym same) (or_neither (p y) (list_any p ys) none).0
fails_of p (y ∷ ys) e none (inr there) = fails_of p ys e (or_neither (p y) (list_any p ys) none).1 there

-- no earlier thing clashes with one of a list, and no two of the list clash
record Apart {X : Type 0} (clash : X → X → Bool) (earlier xs : List X) : Type 0 where
  before : (e x : X) → In e earlier → In x xs → clash e x ≡ false
  within : AllPairs (λ a b. clash a b ≡ false) xs

apart_step : {X : Type 0} (clash : X → X → Bool) (earlier : List X) (n : ℕ) (x : X) (xs : List X) (t : Bool) → list_any (λ e. clash e x) earlier ≡ t
    → (first_clash clash (earlier ++ x ∷ []) (n + 1) xs ≡ None → Apart clash (earlier ++ x ∷ []) xs)
    → cond t (Some n) (first_clash clash (earlier ++ x ∷ []) (n + 1) xs) ≡ None
    → Apart clash earlier (x ∷ xs)
apart_step clash earlier n x xs true is later none = absurd (cc)
apart_step {X} clash earlier n x xs false is later none =
    let rest = later none in
    let before : (e y : X) → In e earlier → In y (x ∷ xs) → clash e y ≡ false =
    λ e y there one. elim one [
      | inl same ↦ subst (λ z. clash e z ≡ false) (sym same) (fails_of (λ f. clash f x) earlier e is there)
      | inr more ↦ rest.before e y (in_front e earlier x there) more
    ] in
    let pairs : (i j : ℕ) (d : X) → i < j → j < length (x ∷ xs) → clash (get_or (x ∷ xs) i d) (get_or (x ∷ xs) j d) ≡ false =
    λ i j d less within. pair_of clash earlier x xs rest i j d less within in
    record { before = before; within = pairs }
  where
    pair_of : {X : Type 0} (clash : X → X → Bool) (earlier : List X) (x : X) (xs : List X) → Apart clash (earlier ++ x ∷ []) xs → (i j : ℕ) (d : X) → i < j → j < length (x ∷ xs)
        → clash (get_or (x ∷ xs) i d) (get_or (x ∷ xs) j d) ≡ false
    pair_of clash earlier x xs rest i zero d less within = absurd (omega arith)
    pair_of clash earlier x xs rest zero (suc j) d less within = rest.before x (get_or xs j d) (in_end earlier x) (in_at xs j d (omega arith))
    pair_of clash earlier x xs rest (suc i) (suc j) d less within = rest.within i j d (omega arith) (omega arith)

apart_all : {X : Type 0} (clash : X → X → Bool) (earlier : List X) (n : ℕ) (xs : List X) → first_clash clash earlier n xs ≡ None → Apart clash earlier xs
apart_all {X} clash earlier n [] none = record { before = λ e x there one. absurd one; within = λ i j d less within. absurd (omega arith) }
apart_all clash earlier n (x ∷ xs) none =
    apart_step clash earlier n x xs (list_any (λ e. clash e x) earlier) refl (apart_all clash (earlier ++ x ∷ []) (n + 1) xs) none

-- where none clashes with an earlier one, no two clash
pub none_clash : {X : Type 0} (clash : X → X → Bool) (xs : List X) → first_clash clash [] 0 xs ≡ None → AllPairs (λ a b. clash a b ≡ false) xs
none_clash clash xs none = (apart_all clash [] 0 xs none).within

-- ---- priorities that rise

rises_step : (before n p : ℕ) (ps : List ℕ) (t : Bool) → nat_lt before p ≡ t → (out_of_order (Some p) (n + 1) ps ≡ None → IsStrictlyIncreasing (p ∷ ps))
    → cond t (out_of_order (Some p) (n + 1) ps) (Some n) ≡ None → IsStrictlyIncreasing (before ∷ p ∷ ps)
rises_step before n p ps false is later none = absurd (cc)
rises_step before n p ps true is later none = step (later none)
  where
    step : IsStrictlyIncreasing (p ∷ ps) → (k : ℕ) → k + 1 < length (before ∷ p ∷ ps) → get_or (before ∷ p ∷ ps) k 0 < get_or (before ∷ p ∷ ps) (k + 1) 0
    step rest zero within = grind (arith, nat_tests)
    step rest (suc k) within = rw (add-one (suc k)) (rw (add-one k) at (rest k (omega arith)))

rises_from : (before n : ℕ) (ps : List ℕ) → out_of_order (Some before) n ps ≡ None → IsStrictlyIncreasing (before ∷ ps)
rises_from before n [] none = λ k within. absurd (omega arith)
rises_from before n (p ∷ ps) none = rises_step before n p ps (nat_lt before p) refl (rises_from p (n + 1) ps) none

-- where none is out of order, the priorities rise
pub rises : (ps : List ℕ) → out_of_order None 0 ps ≡ None → IsStrictlyIncreasing ps
rises [] none = λ k within. absurd (omega arith)
rises (p ∷ ps) none = rises_from p 1 ps none
