-- Bands in the order of their low ends are apart where each ends below the next one; and bands stay apart in any order.
use Rattle.std.proofs.Common.{◌≡◌, ℕ, zero, suc, ◌+◌, ◌-◌, ◌≤◌, ◌<◌, Bool, true, false, not, ◌&&◌, ◌||◌, cond, List, [], ◌∷◌, length, refl, sym, ap, ◌∙◌, subst, ⊎_elim, arith, get_or, drop}
use Rattle.std.specs.Prelude.{nat_le, nat_lt}
use Rattle.std.specs.List.{list_any, count_by, All}
use Rattle.std.specs.Ordering.{is_le, nat_cmp}
use Rattle.std.specs.List.Sorted.{IsPermutation, IsNonDecreasingBy}
use Rattle.std.proofs.Math.Seq.{drop-cons}
use Rattle.std.proofs.lemmas.Bool.{cases_lt}
use Rattle.std.proofs.lemmas.Bool.Decides.{nat_tests}
use Rattle.std.proofs.lemmas.List.{length-drop, get_or_default}
use Rattle.std.proofs.lemmas.List.Elements.{All-tail}
use Rattle.std.proofs.lemmas.List.Folds.{list_any_none}
use Rattle.std.proofs.lemmas.List.Sums.{sum_by-cons}
use Rattle.std.proofs.lemmas.List.Sorted.{sum_by-IsPermutation, All-permutation}
use Rattle.orb_base.specs.Span.{Span}
use Rattle.orb_base.specs.Apart.{IsOrdered, overlap, are_apart, climb}

-- the priority lies in the band
holds : ℕ → Span → Bool
holds x band = nat_le band.low x && nat_le x band.high

-- how many bands hold the priority
one_if : ℕ → Span → ℕ
one_if x band = cond (holds x band) 1 0

holding : ℕ → List Span → ℕ
holding x bands = count_by (holds x) bands

holding_cons : (x : ℕ) (band : Span) (bands : List Span) → holding x (band ∷ bands) ≡ one_if x band + holding x bands
unfolding holding one_if
holding_cons x band bands = sum_by-cons (λ b. cond (holds x b) 1 0) band bands

one_held : (x : ℕ) (band : Span) → holds x band ≡ true → one_if x band ≡ 1
unfolding one_if
one_held x band h = rw h

one_not : (x : ℕ) (band : Span) → holds x band ≡ false → one_if x band ≡ 0
unfolding one_if
one_not x band h = rw h

-- on tests
or_false : (a b : Bool) → (a || b) ≡ false → (a ≡ false) × (b ≡ false)
or_false true b h = absurd (cc)
or_false false b h = (refl, h)

and_true : (a b : Bool) → (a && b) ≡ true → (a ≡ true) × (b ≡ true)
and_true true b h = (refl, h)
and_true false b h = absurd (cc)

not_true : (a : Bool) → not a ≡ true → a ≡ false
not_true true h = absurd (cc)
not_true false h = refl

same_if : (a b : Bool) → (a ≡ true → b ≡ true) → (b ≡ true → a ≡ true) → a ≡ b
same_if true b f g = sym (f refl)
same_if false true f g = g refl
same_if false false f g = refl

-- two bands that hold a priority overlap
apart_hold_one : (x : ℕ) (a b : Span) → holds x a ≡ true → overlap a b ≡ false → holds x b ≡ false
unfolding holds
apart_hold_one x a b h apart = grind (arith, nat_tests)

nothing_holds : (x : ℕ) → holding x [] ≡ 0
unfolding holding
nothing_holds x = refl

none_holds : (x : ℕ) (band : Span) (bands : List Span) → holds x band ≡ true
    → list_any (overlap band) bands ≡ false → holding x bands ≡ 0
none_holds x band [] h none = nothing_holds x
none_holds x band (b ∷ bands) h none =
    let both = or_false (overlap band b) (list_any (overlap band) bands) none in
    let here = one_not x b (apart_hold_one x band b h both.0) in
    let later = none_holds x band bands h both.1 in
    omega (arith, holding_cons x b bands)

-- of bands that are apart at most one holds a priority
few_by : (x : ℕ) (band : Span) (bands : List Span) (v : Bool) → holds x band ≡ v
    → list_any (overlap band) bands ≡ false → holding x bands ≤ 1 → holding x (band ∷ bands) ≤ 1
few_by x band bands true h none few =
    let here = one_held x band h in
    let later = none_holds x band bands h none in
    omega (arith, holding_cons x band bands)
few_by x band bands false h none few =
    let here = one_not x band h in
    omega (arith, holding_cons x band bands)

few_hold : (x : ℕ) (bands : List Span) → are_apart bands ≡ true → holding x bands ≤ 1
unfolding are_apart
few_hold x [] apart = let none = nothing_holds x in omega arith
few_hold x (band ∷ bands) apart =
    let both = and_true (not (list_any (overlap band) bands)) (are_apart bands) apart in
    few_by x band bands (holds x band) refl (not_true (list_any (overlap band) bands) both.0) (few_hold x bands both.1)

-- of bands that overlap two hold some priority
record HeldBy (band : Span) (bands : List Span) : Type 0 where
  x : ℕ
  first : holds x band ≡ true
  others : 1 ≤ holding x bands

greater : ℕ → ℕ → ℕ
greater a b = cond (nat_le a b) b a

greater_held : (a b : Span) → IsOrdered a → IsOrdered b → overlap a b ≡ true
    → (holds (greater a.low b.low) a ≡ true) × (holds (greater a.low b.low) b ≡ true)
unfolding holds greater
greater_held a b f g h = (grind (arith, nat_tests), grind (arith, nat_tests))

held_by : (band b : Span) (bands : List Span) (v : Bool) → overlap band b ≡ v → IsOrdered band → IsOrdered b
    → (v || list_any (overlap band) bands) ≡ true
    → (list_any (overlap band) bands ≡ true → HeldBy band bands) → HeldBy band (b ∷ bands)
held_by band b bands true is f g some later =
    let held = greater_held band b f g is in
    let x = greater band.low b.low in
    let one = one_held x b held.1 in
    record { x = x; first = held.0; others = omega (arith, holding_cons x b bands) }
held_by band b bands false is f g some later =
    let rest = later some in
    record { x = rest.x; first = rest.first; others = omega (arith, rest.others, holding_cons rest.x b bands) }

head_is : (band : Span) (bands : List Span) → All IsOrdered (band ∷ bands) → IsOrdered band
head_is band bands all = all 0 band (omega arith)

some_hold : (band : Span) (bands : List Span) → IsOrdered band → All IsOrdered bands
    → list_any (overlap band) bands ≡ true → HeldBy band bands
some_hold band [] f all some = absurd (cc)
some_hold band (b ∷ bands) f all some =
    held_by band b bands (overlap band b) refl f (head_is b bands all) some
    (some_hold band bands f (All-tail IsOrdered b bands all))

apart_by : (band : Span) (bands : List Span) (v : Bool) → list_any (overlap band) bands ≡ v → IsOrdered band
    → All IsOrdered bands
    → ((x : ℕ) → holding x (band ∷ bands) ≤ 1) → not v ≡ true
apart_by band bands true is f all few =
    let held = some_hold band bands f all is in
    let one = one_held held.x band held.first in
    absurd (omega (arith, held.others, few held.x, holding_cons held.x band bands))
apart_by band bands false is f all few = refl

apart_if_few : (bands : List Span) → All IsOrdered bands → ((x : ℕ) → holding x bands ≤ 1) → are_apart bands ≡ true
unfolding are_apart
apart_if_few [] all few = refl
apart_if_few (band ∷ bands) all few =
    let later = apart_if_few bands (All-tail IsOrdered band bands all) (λ x. omega (
      arith,
      few x,
      holding_cons x band
          bands,
    )) in
    let here = apart_by band bands (list_any (overlap band) bands) refl (head_is band bands all) (All-tail IsOrdered band
    bands all) few in
    rw (here, later)

-- the order of bands doesn't matter
holding_same : (x : ℕ) (xs ys : List Span) → IsPermutation xs ys → holding x ys ≡ holding x xs
unfolding holding
holding_same x xs ys moved = sum_by-IsPermutation (λ b. cond (holds x b) 1 0) xs ys moved

apart_same : (xs ys : List Span) → IsPermutation xs ys → All IsOrdered xs → are_apart ys ≡ are_apart xs
apart_same xs ys moved all =
    same_if (are_apart ys) (are_apart xs)
    (λ apart. apart_if_few xs all (λ x. let few = few_hold x ys apart in omega (arith, holding_same x xs ys moved)))
    (λ apart. apart_if_few ys (All-permutation IsOrdered xs ys moved all) (λ x. let few = few_hold x xs apart in omega
    (arith, holding_same x xs ys moved)))

-- each of the bands after one that ends below the first of them lies above it
above : (a b : Span) (bands : List Span) → IsNonDecreasingBy (λ (s : Span). s.low) (b ∷ bands)
    → nat_lt a.high b.low ≡ true → list_any (overlap a) (b ∷ bands) ≡ false
above a b bands up below =
    list_any_none (overlap a) (b ∷ bands) (λ k d less. let rise : b.low ≤ (get_or (b ∷ bands) k d).low = up 0 k d
    (omega arith) less in grind (arith, nat_tests))

touch : (a b : Span) → IsOrdered b → a.low ≤ b.low → nat_lt a.high b.low ≡ false → overlap a b ≡ true
touch a b f rise not_below = grind (arith, nat_tests)

rises_on : (a : Span) (bands : List Span) → IsNonDecreasingBy (λ (s : Span). s.low) (a ∷ bands)
    → IsNonDecreasingBy (λ (s : Span). s.low) bands
rises_on a bands up = λ i j d le less. up (suc i) (suc j) d (omega arith) (omega arith)

climb_by : (a b : Span) (bands : List Span) (v : Bool) → nat_lt a.high b.low ≡ v → IsOrdered b
    → IsNonDecreasingBy (λ (s : Span). s.low) (a ∷ b ∷ bands)
    → climb (b ∷ bands) ≡ are_apart (b ∷ bands) → (v && climb (b ∷ bands)) ≡ (not (list_any (overlap a) (b ∷ bands))
    && are_apart (b ∷ bands))
climb_by a b bands true below f up same = rw (above a b bands (rises_on a (b ∷ bands) up) below) same
climb_by a b bands false below f up same = rw (touch a b f (up 0 1 a (omega arith) (omega arith)) below) refl

climb_apart : (bands : List Span) → All IsOrdered bands → IsNonDecreasingBy (λ (s : Span). s.low) bands
    → climb bands ≡ are_apart bands
unfolding climb are_apart
climb_apart [] all up = refl
climb_apart (a ∷ []) all up = refl
climb_apart (a ∷ b ∷ bands) all up =
    let rest = All-tail IsOrdered a (b ∷ bands) all in
    climb_by a b bands (nat_lt a.high b.low) refl (head_is b bands rest) up (climb_apart (b ∷ bands) rest (rises_on a
    (b ∷ bands) up))

pub sorted_apart : (xs ys : List Span) (climbs : Bool) → All IsOrdered xs → IsPermutation xs ys
    → IsNonDecreasingBy (λ (s : Span). s.low) ys → climbs ≡ climb ys
    → climbs ≡ are_apart xs
sorted_apart xs ys climbs all moved up is =
    is ∙ climb_apart ys (All-permutation IsOrdered xs ys moved all) up ∙ apart_same xs ys moved all

-- one step of a pass over bands
climb_drop : (bands : List Span) (i : ℕ) (a b : Span) → suc i < length bands → a ≡ get_or bands i a
    → b ≡ get_or bands (suc i) b
    → climb (drop i bands) ≡ (nat_lt a.high b.low && climb (drop (suc i) bands))
unfolding climb
climb_drop bands i a b more is next =
    let low : i < length bands = omega arith in
    let first : drop i bands ≡ a ∷ drop (suc i) bands = drop-cons bands i a low ∙ ap (λ (x : Span). x ∷ drop (suc i)
    bands) (sym is) in
    let second : drop (suc i) bands ≡ b ∷ drop (suc (suc i)) bands = drop-cons bands (suc i) b more ∙ ap (λ (x :
    Span). x ∷ drop (suc (suc i)) bands) (sym next) in
    rw (first, second) refl

pub climb_goes : (bands : List Span) (at : ℕ) (a b : Span) → 1 ≤ at → at < length bands
    → a ≡ get_or bands (at - 1) a → b ≡ get_or bands at b
    → a.high < b.low → climb (drop (at - 1) bands) ≡ climb (drop (at + 1 - 1) bands)
climb_goes bands zero a b some more is next below = absurd (omega arith)
climb_goes bands (suc i) a b some more is next below =
    let k : suc i - 1 ≡ i = omega arith in
    let j : suc i + 1 - 1 ≡ suc i = omega arith in
    let test : nat_lt a.high b.low ≡ true = grind (arith, nat_tests) in
    let step = climb_drop bands i a b more (rw k at is) next in
    rw (k, j) (step ∙ rw test refl)

pub climb_stops : (bands : List Span) (at : ℕ) (a b : Span) → 1 ≤ at → at < length bands
    → a ≡ get_or bands (at - 1) a → b ≡ get_or bands at b
    → b.low ≤ a.high → climb (drop (at - 1) bands) ≡ false
climb_stops bands zero a b some more is next below = absurd (omega arith)
climb_stops bands (suc i) a b some more is next below =
    let k : suc i - 1 ≡ i = omega arith in
    let test : nat_lt a.high b.low ≡ false = grind (arith, nat_tests) in
    let step = climb_drop bands i a b more (rw k at is) next in
    rw k (step ∙ rw test refl)

climb_short : (bands : List Span) → length bands ≤ 1 → climb bands ≡ true
unfolding climb
climb_short [] short = refl
climb_short (a ∷ []) short = refl
climb_short (a ∷ b ∷ bands) short = absurd (omega arith)

pub climb_ends : (bands : List Span) (at : ℕ) → length bands ≤ at → climb (drop (at - 1) bands) ≡ true
climb_ends bands at all = climb_short (drop (at - 1) bands) (omega (arith, length-drop (at - 1) bands))

-- what a comparison of two priorities says
pub le_if : (a b : ℕ) (r : Bool) → r ≡ is_le (nat_cmp a b) → r ≡ true → a ≤ b
le_if a b r is h = grind (arith, nat_tests)

pub lt_if_not : (a b : ℕ) (r : Bool) → r ≡ is_le (nat_cmp a b) → r ≡ false → b < a
lt_if_not a b r is h = grind (arith, nat_tests)

-- the ends of the first bands are in order
abbrev pub OrderedTo : ℕ → List Span → Type 0
OrderedTo n bands = (k : ℕ) (d : Span) → k < n → IsOrdered (get_or bands k d)

pub ordered_next : (bands : List Span) (n : ℕ) (band : Span) → n < length bands → band ≡ get_or bands n band
    → OrderedTo n bands → IsOrdered band → OrderedTo (n + 1) bands
ordered_next bands n band less is so_far here k d below =
    ⊎_elim (λ lt. so_far k d lt)
    (λ le. let e : k ≡ n = omega arith in rw e (subst (λ (s : Span). IsOrdered s) (is ∙ get_or_default bands n band d less) here))
    (cases_lt k n)
