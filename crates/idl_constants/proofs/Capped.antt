-- A number that is counted no further than a limit.
use Rattle.std.proofs.Common.{◌≡◌, ◌≤◌, ◌<◌, ◌+◌, ◌*◌, lit≤, ◌⊎◌, inl, inr, ℕ, zero, suc, min, List, [], ◌∷◌, length, drop, refl, sym, ap, ◌∙◌, arith}
use Rattle.std.specs.List.{slice_index_or}
use Rattle.std.proofs.Math.Nat.{mul-le-mul_left}
use Rattle.std.proofs.lemmas.Bool.Decides.{leb_tells}
use Rattle.std.proofs.lemmas.List.{at_drop_more, drop_all}
use Rattle.idl_constants.specs.declared.literal.Base.{Base}
use Rattle.idl_constants.specs.declared.literal.Base.TheVariants.{Eight, Ten, Sixteen}
use Rattle.idl_constants.specs.Literals.{base_of, digit, number_behind, number}

above : (a b d m : ℕ) → m < a → 1 ≤ b → min (min a m * b + d) m ≡ min (a * b + d) m
above a b d m lt one =
    let e : min a m ≡ m = omega arith in
    let up : m * 1 ≤ m * b = mul-le-mul_left m one in
    let more : a * 1 ≤ a * b = mul-le-mul_left a one in
    let first : min (m * b + d) m ≡ m = omega arith in
    let second : min (a * b + d) m ≡ m = omega arith in
    ap (λ n. min (n * b + d) m) e ∙ first ∙ sym second

-- one more digit, after a number that is above the limit, stays above it
cap_step : (a b d m : ℕ) → 1 ≤ b → min (min a m * b + d) m ≡ min (a * b + d) m
cap_step a b d m one =
    elim (leb_tells a m) [
      | inl le ↦ (let below : a ≤ m = le.1 in let e : min a m ≡ a = omega arith in ap (λ n. min (n * b + d) m) e)
      | inr lt ↦ above a b d m lt.1 one
    ]

-- a number that is capped first is capped all the same
capped : (b a m : ℕ) (cs : List ℕ) → 1 ≤ b → min (number_behind b (min a m) cs) m ≡ min (number_behind b a cs) m
capped b a m [] one = omega arith
capped b a m (c ∷ cs) one =
    sym (capped b (min a m * b + digit c) m cs one) ∙ ap (λ n. min (number_behind b n cs) m) (cap_step a b (digit c) m one) ∙ capped b (a * b + digit c) m cs one

pub capped_next : (b n next m total : ℕ) (cs : List ℕ) (i : ℕ) → 1 ≤ b → i < length cs → next ≡ min (n * b + digit (slice_index_or cs i 0)) m
    → min (number_behind b n (drop i cs)) m ≡ total → min (number_behind b next (drop (i + 1) cs)) m ≡ total
capped_next b n next m total cs i one lt is so_far =
    ap (λ x. min (number_behind b x (drop (i + 1) cs)) m) is ∙ capped b (n * b + digit (slice_index_or cs i 0)) m (drop (i + 1) cs) one
    ∙ sym (ap (λ x. min x m) (at_drop_more (number_behind b n) cs i 0 lt)) ∙ so_far

pub capped_end : (b n m total : ℕ) (cs : List ℕ) (i : ℕ) → length cs ≤ i → n ≤ m → min (number_behind b n (drop i cs)) m ≡ total → n ≡ total
capped_end b n m total cs i le small so_far =
    let e : n ≡ min n m = omega arith in e ∙ ap (λ zs. min (number_behind b n zs) m) (sym (drop_all i cs le)) ∙ so_far

pub base_positive : (base : Base) → 1 ≤ base_of base
base_positive Eight = lit≤ tt
base_positive Ten = lit≤ tt
base_positive Sixteen = lit≤ tt
