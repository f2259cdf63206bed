-- Places and what is put in them.
use Rattle.std.proofs.Common.{◌≡◌, ◌<◌, ℕ, zero, suc, ◌==◌, Bool, true, false, cond, eqb, ltb, List, [], ◌∷◌, map, length, replicate, Option, Some, None, Ok, Err, refl, sym, ap, ◌∙◌, subst, slice_get, slice_set, arith}
use Rattle.std.proofs.lemmas.Bool.{eqb-true, eqb-false, lt-ltb}
use Rattle.std.specs.Option.{option_map}
use Rattle.std.proofs.lemmas.Option.{none-some, same_Some}
use Rattle.cdr_values.specs.Trees.{Kind, Value, items, values_of}
use Rattle.cdr_values.specs.Fitting.{is_of}
use Rattle.script_values.specs.declared.limit.Limit.TheVariants.{Misfit, TooLarge}
use Rattle.script_values.specs.Trees as run
use Rattle.script_values.specs.Trees.{terms_of}
use Rattle.script_values.specs.Operations.{Comes, ◌>>=◌, or_blank, blank, member_at}
use Rattle.script_values.specs.Evaluation as values
use Rattle.script_values.specs.Evaluation.{value_at, filled, fit_in, fitted, blanks_of, terms_len}
use Rattle.script_values.specs.Leaves.{leaves, sized}
use Rattle.script_checks.specs.Built.{is_given}
use Rattle.script_laws.specs.Defined.{Defined, ◌and_then◌, there, got, put, all_put}
use Rattle.script_laws.specs.Evaluation.{defined_value, defined_fill, defined_fit, holes_of, whole, then_put}
use Rattle.script_laws.specs.Kinds.{Every}
use Rattle.script_laws.proofs.Good.{Good, bind, itself}
use Rattle.script_laws.proofs.Checks.{both_false}

-- what the places hold, with what stands for no value
abbrev pub shown : List (Option Value) → List Value
shown = map or_blank

-- no value was put
abbrev nothing : Option Value
nothing = None

-- values, each put
abbrev pub somes : List Value → List (Option Value)
somes = map (λ v. Some v)

-- ---- one place

pub got_shows : (os : List (Option Value)) (n : ℕ) (v : Value) → got os n ≡ Some v → member_at (shown os) n ≡ v
got_shows [] n v e = absurd (none-some v e)
got_shows (None ∷ os) zero v e = absurd (none-some v e)
got_shows (Some w ∷ os) zero v e = same_Some w v e
got_shows (o ∷ os) (suc n) v e = got_shows os n v e

pub set_shows : (os : List (Option Value)) (n : ℕ) (v : Value) → shown (slice_set os n (Some v)) ≡ slice_set (shown os) n v
set_shows [] n v = refl
set_shows (o ∷ os) zero v = refl
set_shows (o ∷ os) (suc n) v = ap (λ (vs : List Value). or_blank o ∷ vs) (set_shows os n v)

pub put_is : (os : List (Option Value)) (n : ℕ) (v : Value) → n < length os → put os n v ≡ Some (slice_set os n (Some v))
put_is os n v h = ap (λ (b : Bool). cond b (Some (slice_set os n (Some v))) None) (lt-ltb n (length os) h)

pub get_within : {A : Type 0} (xs : List A) (n : ℕ) (x : A) → slice_get xs n ≡ Some x → n < length xs
get_within [] n x e = absurd (none-some x e)
get_within (y ∷ ys) zero x e = omega arith
get_within (y ∷ ys) (suc n) x e = let h = get_within ys n x e in omega (arith, h)

pub get_set_same : {A : Type 0} (xs : List A) (n : ℕ) (x : A) → n < length xs → slice_get (slice_set xs n x) n ≡ Some x
get_set_same [] n x h = absurd (omega (arith, h))
get_set_same (y ∷ ys) zero x h = refl
get_set_same (y ∷ ys) (suc n) x h = get_set_same ys n x (omega (arith, h))

pub get_set_other : {A : Type 0} (xs : List A) (m n : ℕ) (x : A) → (m ≡ n → ⊥) → slice_get (slice_set xs n x) m ≡ slice_get xs m
get_set_other [] m n x h = refl
get_set_other (y ∷ ys) zero zero x h = absurd (h refl)
get_set_other (y ∷ ys) zero (suc n) x h = refl
get_set_other (y ∷ ys) (suc m) zero x h = refl
get_set_other (y ∷ ys) (suc m) (suc n) x h = get_set_other ys m n x (λ e. h (ap suc e))

pub set_long : {A : Type 0} (xs : List A) (n : ℕ) (x : A) → length (slice_set xs n x) ≡ length xs
set_long [] n x = refl
set_long (y ∷ ys) zero x = refl
set_long (y ∷ ys) (suc n) x = ap suc (set_long ys n x)

-- ---- places that are empty

abbrev pub empties : List (Option Value) → ℕ
empties [] = 0
empties (None ∷ os) = suc (empties os)
empties (Some v ∷ os) = empties os

one_less : (os : List (Option Value)) (n : ℕ) (v : Value) → slice_get os n ≡ Some None → suc (empties (slice_set os n (Some v))) ≡ empties os
one_less [] n v e = absurd (none-some None e)
one_less (None ∷ os) zero v e = refl
one_less (Some w ∷ os) zero v e = absurd (none-some w (sym (same_Some (Some w) None e)))
one_less (None ∷ os) (suc n) v e = ap suc (one_less os n v e)
one_less (Some w ∷ os) (suc n) v e = one_less os n v e

all_empty : (n : ℕ) → empties (replicate n None) ≡ n
all_empty zero = refl
all_empty (suc n) = ap suc (all_empty n)

empty_at : (n m : ℕ) → m < n → slice_get (replicate n nothing) m ≡ Some None
empty_at zero m h = absurd (omega (arith, h))
empty_at (suc n) zero h = refl
empty_at (suc n) (suc m) h = empty_at n m (omega (arith, h))

empty_only : (n m : ℕ) (v : Value) → slice_get (replicate n None) m ≡ Some (Some v) → ⊥
empty_only zero m v e = none-some (Some v) e
empty_only (suc n) zero v e = none-some v (same_Some None (Some v) e)
empty_only (suc n) (suc m) v e = empty_only n m v e

pub blanks_shown : (n : ℕ) → shown (replicate n None) ≡ replicate n blank
blanks_shown zero = refl
blanks_shown (suc n) = ap (λ (vs : List Value). blank ∷ vs) (blanks_shown n)

empties_long : (n : ℕ) → length (replicate n nothing) ≡ n
empties_long zero = refl
empties_long (suc n) = ap suc (empties_long n)

pub full : (os : List (Option Value)) → empties os ≡ 0 → (vs : List Value) × (os ≡ somes vs)
full [] e = ([], refl)
full (None ∷ os) e = absurd (omega (arith, e))
full (Some v ∷ os) e = let h = full os e in (v ∷ h.0, ap (λ (ps : List (Option Value)). Some v ∷ ps) h.1)

all_put_is : (vs : List Value) → all_put (somes vs) ≡ Some vs
all_put_is [] = refl
all_put_is (v ∷ vs) = ap (option_map (λ (ws : List Value). v ∷ ws)) (all_put_is vs)

pub shown_is : (vs : List Value) → shown (somes vs) ≡ vs
shown_is [] = refl
shown_is (v ∷ vs) = ap (λ (ws : List Value). v ∷ ws) (shown_is vs)

pub some_at : (vs : List Value) (m : ℕ) (v : Value) → slice_get vs m ≡ Some v → slice_get (somes vs) m ≡ Some (Some v)
some_at [] m v e = absurd (none-some v e)
some_at (w ∷ vs) zero v e = ap Some e
some_at (w ∷ vs) (suc m) v e = some_at vs m v e

some_long : (vs : List Value) → length (somes vs) ≡ length vs
some_long [] = refl
some_long (v ∷ vs) = ap suc (some_long vs)

-- ---- what was put fits

-- each value that was put is of the type of its place
abbrev pub Fit : (ℕ → Option Kind) → List (Option Value) → Type 0
Fit kinds os = (m : ℕ) (v : Value) → slice_get os m ≡ Some (Some v) → (k : Kind) × (kinds m ≡ Some k) × (is_of v k ≡ true)

fit_set : (kinds : ℕ → Option Kind) (os : List (Option Value)) (n : ℕ) (v : Value) (k : Kind) → n < length os → Fit kinds os → kinds n ≡ Some k → is_of v k ≡ true
    → (m : ℕ) (w : Value) (b : Bool) → eqb m n ≡ b → slice_get (slice_set os n (Some v)) m ≡ Some (Some w) → (k : Kind) × (kinds m ≡ Some k) × (is_of w k ≡ true)
fit_set kinds os n v k near fit at is m w true e h =
    let same : m ≡ n = eqb-true m n e in
    let here : Some (Some v) ≡ Some (Some w) = sym (get_set_same os n (Some v) near) ∙ ap (slice_get (slice_set os n (Some v))) (sym same) ∙ h in
    let value : v ≡ w = same_Some v w (same_Some (Some v) (Some w) here) in
    (k, ap kinds same ∙ at, subst (λ (u : Value). is_of u k ≡ true) value is)
fit_set kinds os n v k near fit at is m w false e h = fit m w (sym (get_set_other os m n (Some v) (eqb-false m n e)) ∙ h)

-- ---- a value of the type that is due

fits_or : (b : Bool) (v : Value) (k : Kind) → is_of v k ≡ b → Good itself (λ (w : Value). is_of w k ≡ true) (Some (cond b (Ok v) (Err Misfit))) (cond b (Ok v) (Err Misfit))
fits_or true v k e = (refl, e)
fits_or false v k e = refl

pub fit_good : (P : Value → Type 0) (due : Option Kind) (k : Kind) (s : Defined Value) (t : Comes Value) → due ≡ Some k → Good itself P s t
    → Good itself (λ (v : Value). is_of v k ≡ true) (s and_then defined_fit due) (fit_in due t)
fit_good P due k s t e good = subst (λ (d : Option Kind). Good itself (λ (v : Value). is_of v k ≡ true) (s and_then defined_fit d) (fit_in d t)) (sym e)
    (bind itself P itself (λ (v : Value). is_of v k ≡ true) s t (defined_fit (Some k)) (fitted (Some k)) good (λ v h. fits_or (is_of v k) v k refl))

-- ---- filling

-- what goes into a place has a value, and the type that is due is that of the place
pub record PartOk (kinds : ℕ → Option Kind) (p : ℕ) (slots : List (Option Value)) (q : run.Part) : Type 0 where
  pub kind : Kind
  pub due : q.1 ≡ Some kind
  pub place : kinds q.0 ≡ Some kind
  pub value : Good itself (λ (v : Value). Unit {0}) (defined_value p slots q.2) (value_at p (shown slots) q.2)

-- no place twice
abbrev pub Distinct : List run.Part → Type 0
Distinct [] = Unit {0}
Distinct (q ∷ qs) = (is_given qs q.0 ≡ false) × Distinct qs

abbrev Free : List (Option Value) → List run.Part → Type 0
Free os [] = Unit {0}
Free os (q ∷ qs) = (slice_get os q.0 ≡ Some None) × Free os qs

still_free : (os : List (Option Value)) (n : ℕ) (v : Value) (qs : List run.Part) → is_given qs n ≡ false → Free os qs → Free (slice_set os n (Some v)) qs
still_free os n v [] new free = tt
still_free os n v (q ∷ qs) new free =
    let h = both_false (q.0 == n) (is_given qs n) new in
    (get_set_other os q.0 n (Some v) (eqb-false q.0 n h.0) ∙ free.0, still_free os n v qs h.1 free.1)

fill_good : (kinds : ℕ → Option Kind) (p : ℕ) (slots : List (Option Value)) (qs : List run.Part) (os : List (Option Value))
    → Every (PartOk kinds p slots) qs → Distinct qs → Free os qs → Fit kinds os → empties os ≡ length qs
    → Good shown (λ (ps : List (Option Value)). Fit kinds ps × (empties ps ≡ 0) × (length ps ≡ length os)) (defined_fill p slots (terms_of qs) os) (filled p (shown slots) (terms_of qs) (shown os))
unfolding defined_fill filled
fill_good kinds p slots [] os ok distinct free fit left = (refl, (fit, left, refl))
fill_good kinds p slots (q ∷ qs) os ok distinct free fit left =
    let Q : List (Option Value) → Type 0 = λ (ps : List (Option Value)). Fit kinds ps × (empties ps ≡ 0) × (length ps ≡ length os) in
    let near : q.0 < length os = get_within os q.0 None free.0 in
    let more : (v : Value) → is_of v ok.0.kind ≡ true
    → Good shown Q (then_put (defined_fill p slots (terms_of qs)) os q.0 v) (values.then_put (filled p (shown slots) (terms_of qs)) (shown os) q.0 v) = λ v is.
    let next : List (Option Value) = slice_set os q.0 (Some v) in
    let less : suc (empties next) ≡ empties os = one_less os q.0 v free.0 in
    let rest = fill_good kinds p slots qs next ok.1 distinct.1 (still_free os q.0 v qs distinct.0 free.1)
    (λ m w e. fit_set kinds os q.0 v ok.0.kind near fit ok.0.place is m w (eqb m q.0) refl e) (omega (arith, less, left)) in
    let long : length next ≡ length os = set_long os q.0 (Some v) in
    subst (λ (o : Option (List (Option Value))). Good shown Q (there o and_then defined_fill p slots (terms_of qs)) (filled p (shown slots) (terms_of qs) (slice_set (shown os) q.0 v)))
    (sym (put_is os q.0 v near))
    (subst (λ (vs : List Value). Good shown Q (defined_fill p slots (terms_of qs) next) (filled p (shown slots) (terms_of qs) vs)) (set_shows os q.0 v)
    (subst (λ (n : ℕ). Good shown (λ (ps : List (Option Value)). Fit kinds ps × (empties ps ≡ 0) × (length ps ≡ n)) (defined_fill p slots (terms_of qs) next) (filled p (shown slots) (terms_of qs) (shown next))) long rest)) in
    bind itself (λ (v : Value). is_of v ok.0.kind ≡ true) shown Q (defined_value p slots q.2 and_then defined_fit q.1) (fit_in q.1 (value_at p (shown slots) q.2))
    (then_put (defined_fill p slots (terms_of qs)) os q.0) (values.then_put (filled p (shown slots) (terms_of qs)) (shown os) q.0)
    (fit_good (λ (v : Value). Unit {0}) q.1 ok.0.kind (defined_value p slots q.2) (value_at p (shown slots) q.2) ok.0.due ok.0.value)
    more

-- ---- what is built

cut : (P : Value → Type 0) (b : Bool) (v : Value) → P v → Good itself P (Some (cond b (Err TooLarge) (Ok v))) (cond b (Err TooLarge) (Ok v))
cut P true v h = refl
cut P false v h = (refl, h)

sized_good : (P : Value → Type 0) (v : Value) → P v → Good itself P (Some (sized v)) (sized v)
unfolding sized
sized_good P v h = cut P (ltb 65536 (leaves v)) v h

-- values that were put fit
abbrev pub Fits : (ℕ → Option Kind) → List Value → Type 0
Fits kinds vs = (m : ℕ) (v : Value) → slice_get vs m ≡ Some v → (k : Kind) × (kinds m ≡ Some k) × (is_of v k ≡ true)

whole_good : (kinds : ℕ → Option Kind) (P : Value → Type 0) (n : ℕ) (os : List (Option Value)) → Fit kinds os → empties os ≡ 0 → length os ≡ n
    → ((vs : List Value) → length vs ≡ n → Fits kinds vs → P (items (values_of vs))) → Good itself P (whole os) (sized (items (values_of (shown os))))
whole_good kinds P n os fit left long f =
    let h = full os left in
    let fits : Fits kinds h.0 = λ m v e. fit m v (ap (λ (ps : List (Option Value)). slice_get ps m) h.1 ∙ some_at h.0 m v e) in
    let count : length h.0 ≡ n = sym (some_long h.0) ∙ ap length (sym h.1) ∙ long in
    subst (λ (ps : List (Option Value)). Good itself P (whole ps) (sized (items (values_of (shown ps))))) (sym h.1)
    (subst (λ (o : Option (List Value)). Good itself P (there o and_then λ vs. Some (sized (items (values_of vs)))) (sized (items (values_of (shown (somes h.0)))))) (sym (all_put_is h.0))
    (subst (λ (vs : List Value). Good itself P (Some (sized (items (values_of h.0)))) (sized (items (values_of vs)))) (sym (shown_is h.0))
    (sized_good P (items (values_of h.0)) (f h.0 count fits))))

terms_count : (qs : List run.Part) → terms_len (terms_of qs) ≡ length qs
terms_count [] = refl
terms_count (q ∷ qs) = ap suc (terms_count qs)

all_free : (n : ℕ) (qs : List run.Part) → Every (λ (q : run.Part). q.0 < n) qs → Free (replicate n None) qs
all_free n [] h = tt
all_free n (q ∷ qs) h = (empty_at n q.0 h.0, all_free n qs h.1)

pub built_good : (kinds : ℕ → Option Kind) (P : Value → Type 0) (p : ℕ) (slots : List (Option Value)) (qs : List run.Part)
    → Every (PartOk kinds p slots) qs → Distinct qs → Every (λ (q : run.Part). q.0 < length qs) qs
    → ((vs : List Value) → length vs ≡ length qs → Fits kinds vs → P (items (values_of vs)))
    → Good itself P (defined_fill p slots (terms_of qs) (holes_of (terms_of qs)) and_then whole)
    (filled p (shown slots) (terms_of qs) (blanks_of (terms_of qs)) >>= λ (vs : List Value). sized (items (values_of vs)))
built_good kinds P p slots qs ok distinct within f =
    let n = terms_len (terms_of qs) in
    let count : n ≡ length qs = terms_count qs in
    let free = subst (λ (m : ℕ). Free (replicate m None) qs) (sym count) (all_free (length qs) qs within) in
    let Q : List (Option Value) → Type 0 = λ (ps : List (Option Value)). Fit kinds ps × (empties ps ≡ 0) × (length ps ≡ length (replicate n nothing)) in
    let first : Good shown Q (defined_fill p slots (terms_of qs) (replicate n None)) (filled p (shown slots) (terms_of qs) (shown (replicate n None))) =
    fill_good kinds p slots qs (replicate n None) ok distinct free (λ m v e. absurd (empty_only n m v e)) (all_empty n ∙ count) in
    let start : Good shown Q (defined_fill p slots (terms_of qs) (replicate n None)) (filled p (shown slots) (terms_of qs) (replicate n blank)) =
    subst (λ (vs : List Value). Good shown Q (defined_fill p slots (terms_of qs) (replicate n None)) (filled p (shown slots) (terms_of qs) vs)) (blanks_shown n) first in
    bind shown Q itself P (defined_fill p slots (terms_of qs) (replicate n None)) (filled p (shown slots) (terms_of qs) (replicate n blank)) whole
    (λ (vs : List Value). sized (items (values_of vs))) start
    (λ os h. whole_good kinds P (length qs) os h.0 h.1 (h.2 ∙ empties_long n ∙ count) f)
