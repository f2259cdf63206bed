-- A number that is counted no further than a limit.
use Rattle.std.proofs.Common.{◌≡◌, ◌≤◌, ◌<◌, ◌+◌, ◌-◌, ◌*◌, inl, inr, ℕ, min, List, [], ◌∷◌, length, drop, sym, ap, ◌∙◌, arith}
use Rattle.std.specs.List.{slice_index_or}
use Rattle.std.proofs.lemmas.Bool.Decides.{leb_tells}
use Rattle.std.proofs.lemmas.List.{at_drop_more, drop_all}
use Rattle.servant_scripts.specs.Literals.{number_behind}

above : (a d m : ℕ) → m < a → min (min a m * 10 + d) m ≡ min (a * 10 + d) m
above a d m lt =
    let e : min a m ≡ m = omega arith in
    let first : min (m * 10 + d) m ≡ m = omega arith in
    let second : min (a * 10 + d) m ≡ m = omega arith in
    ap (λ n. min (n * 10 + d) m) e ∙ first ∙ sym second

-- one more digit, after a number that is above the limit, stays above it
cap_step : (a d m : ℕ) → min (min a m * 10 + d) m ≡ min (a * 10 + d) m
cap_step a d m =
    elim (leb_tells a m) [
      | inl le ↦ (let below : a ≤ m = le.1 in let e : min a m ≡ a = omega arith in ap (λ n. min (n * 10 + d) m) e)
      | inr lt ↦ above a d m lt.1
    ]

-- a number that is capped first is capped all the same
capped : (a m : ℕ) (cs : List ℕ) → min (number_behind (min a m) cs) m ≡ min (number_behind a cs) m
capped a m [] = omega arith
capped a m (c ∷ cs) =
    sym (capped (min a m * 10 + (c - 48)) m cs) ∙ ap (λ n. min (number_behind n cs) m) (cap_step a (c - 48) m) ∙ capped (a * 10 + (c - 48)) m cs

pub capped_next : (n next m total : ℕ) (cs : List ℕ) (i : ℕ) → i < length cs → next ≡ min (n * 10 + (slice_index_or cs i 0 - 48)) m
    → min (number_behind n (drop i cs)) m ≡ total → min (number_behind next (drop (i + 1) cs)) m ≡ total
capped_next n next m total cs i lt is so_far =
    ap (λ x. min (number_behind x (drop (i + 1) cs)) m) is ∙ capped (n * 10 + (slice_index_or cs i 0 - 48)) m (drop (i + 1) cs)
    ∙ sym (ap (λ x. min x m) (at_drop_more (number_behind n) cs i 0 lt)) ∙ so_far

pub capped_end : (n m total : ℕ) (cs : List ℕ) (i : ℕ) → length cs ≤ i → n ≤ m → min (number_behind n (drop i cs)) m ≡ total → n ≡ total
capped_end n m total cs i le small so_far =
    let e : n ≡ min n m = omega arith in e ∙ ap (λ zs. min (number_behind n zs) m) (sym (drop_all i cs le)) ∙ so_far

-- one more digit, where sums and products that are counted no further than another limit are capped
pub saturated : (n d m top product sum next : ℕ) → m ≤ top → product ≡ min (n * 10) top → sum ≡ min (product + d) top → next ≡ min sum m → next ≡ min (n * 10 + d) m
saturated n d m top product sum next le p s e = omega arith
