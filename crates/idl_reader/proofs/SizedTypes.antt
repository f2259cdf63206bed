-- What is counted of a type is no less than it has, as long as the count isn't cut.
use Rattle.std.proofs.Common.{◌≡◌, ℕ, zero, suc, ◌+◌, ◌*◌, ◌<◌, ◌≤◌, arith, max, false, List, [], ◌∷◌, ◌++◌, sum_by}
use Rattle.std.specs.Prelude.{nat_lt}
use Rattle.std.proofs.lemmas.Bool.{or_parts}
use Rattle.std.proofs.lemmas.Bool.Decides.{nat_tests}
use Rattle.std.proofs.lemmas.List.Sums.{sum_by_push}
use Rattle.std.proofs.lemmas.Nat.{mul-le}
use Rattle.cdr_values.specs.Trees.{Kind, members_of, Branch, cases_of}
use Rattle.idl_types.specs.Counting.{leaves_of, leaves_of_members, leaves_of_cases, levels_of, levels_of_members, levels_of_cases}
use Rattle.idl_names.specs.Sizes.{Sized, most, plus, times, leaf, sequence_of, array_of, arrays_of, is_large}

-- there are at most so many as are counted
abbrev pub AtMost : ℕ → ℕ → Type 0
AtMost n counted = counted < most → n ≤ counted

-- so of the leaves and the levels of a type
pub record IsSized (k : Sized) : Type 0 where
  pub leaves : AtMost (leaves_of k.kind) k.leaves
  pub levels : AtMost (levels_of k.kind) k.levels

pub plus_at_most : (a b m n : ℕ) → AtMost a m → AtMost b n → AtMost (a + b) (plus m n)
plus_at_most a b m n p q h = let x = p (omega arith) in let y = q (omega arith) in omega arith

times_at_most : (a m n : ℕ) → AtMost a m → AtMost (a * n) (times m n)
times_at_most a m zero p h = omega arith
times_at_most a m (suc n) p h =
    let below : m * 1 ≤ m * suc n = mul-le m 1 m (suc n) (omega arith) (omega arith) in
    let x = p (omega arith) in
    let y : a * suc n ≤ m * suc n = mul-le a (suc n) m (suc n) x (omega arith) in
    omega arith

pub leaf_sized : (kind : Kind) → leaves_of kind ≡ 1 → levels_of kind ≡ 0 → IsSized (leaf kind)
leaf_sized kind a b = record { leaves = λ h. omega arith; levels = λ h. omega arith }

pub sequence_sized : (bound : ℕ) (k : Sized) → IsSized k → IsSized (sequence_of bound k)
sequence_sized bound k h = record { leaves = plus_at_most (leaves_of k.kind) 1 k.leaves 1 h.leaves (λ x. omega arith); levels = plus_at_most (levels_of k.kind) 1 k.levels 1 h.levels (λ x. omega arith) }

array_sized : (n : ℕ) (k : Sized) → IsSized k → IsSized (array_of n k)
array_sized n k h = record { leaves = times_at_most (leaves_of k.kind) k.leaves n h.leaves; levels = plus_at_most (levels_of k.kind) 1 k.levels 1 h.levels (λ x. omega arith) }

pub arrays_sized : (ns : List ℕ) (k : Sized) → IsSized k → IsSized (arrays_of ns k)
arrays_sized [] k h = h
arrays_sized (n ∷ ns) k h = arrays_sized ns (array_of n k) (array_sized n k h)

-- a type that isn't too large
pub record IsSmall (k : Kind) : Type 0 where
  pub leaves : leaves_of k ≤ 65536
  pub levels : levels_of k ≤ 64

pub not_large : (k : Sized) → is_large k ≡ false → (k.leaves ≤ 65536) × (k.levels ≤ 64)
not_large k h = let p = or_parts (nat_lt 65536 k.leaves) (nat_lt 64 k.levels) h in (grind (arith, nat_tests), grind (arith, nat_tests))

pub small : (k : Sized) → IsSized k → is_large k ≡ false → IsSmall k.kind
small k h fits =
    let p = not_large k fits in
    let a = p.0 in
    let b = p.1 in
    let x = h.leaves (omega arith) in
    let y = h.levels (omega arith) in
    record { leaves = omega arith; levels = omega arith }

-- one member more
pub leaves_more : (ms : List (List ℕ × Kind)) (m : List ℕ × Kind) → leaves_of_members (members_of (ms ++ m ∷ [])) ≡ leaves_of_members (members_of ms) + leaves_of m.1
leaves_more [] m = omega arith
leaves_more (x ∷ ms) m = let h = leaves_more ms m in omega arith

pub levels_more : (ms : List (List ℕ × Kind)) (m : List ℕ × Kind) → levels_of_members (members_of (ms ++ m ∷ [])) ≡ max (levels_of_members (members_of ms)) (levels_of m.1)
levels_more [] m = omega arith
levels_more (x ∷ ms) m = let h = levels_more ms m in omega arith

-- one case more
pub case_leaves_more : (cs : List Branch) (c : Branch) → leaves_of_cases (cases_of (cs ++ c ∷ [])) ≡ leaves_of_cases (cases_of cs) + leaves_of c.3
case_leaves_more [] c = omega arith
case_leaves_more (x ∷ cs) c = let h = case_leaves_more cs c in omega arith

pub case_levels_more : (cs : List Branch) (c : Branch) → levels_of_cases (cases_of (cs ++ c ∷ [])) ≡ max (levels_of_cases (cases_of cs)) (levels_of c.3)
case_levels_more [] c = omega arith
case_levels_more (x ∷ cs) c = let h = case_levels_more cs c in omega arith

pub sum_more : {X : Type 0} (f : X → ℕ) (xs : List X) (x : X) → sum_by f (xs ++ x ∷ []) ≡ sum_by f xs + f x
sum_more f xs x = sum_by_push f xs x
