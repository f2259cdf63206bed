-- Looking for the end of a comment, byte by byte.
use Rattle.std.proofs.Common.{◌≡◌, ℕ, zero, suc, ◌+◌, ◌-◌, ◌<◌, ◌≤◌, Bool, true, false, List, [], ◌∷◌, Option, Some, None, length, drop, refl, sym, ap, ◌∙◌, arith}
use Rattle.std.specs.Prelude.{◌==◌, codes}
use Rattle.std.specs.List.{starts_with}
use Rattle.idl_tokens.specs.Runs.{comment_end}

abbrev ends_here : List ℕ → Bool
ends_here z = starts_with (λ x y. x == y) z (codes "*/")

pub comment_on : (n : ℕ) (z : List ℕ) → n < length z → ends_here (drop n z) ≡ false → comment_end (n + 1) (drop (n + 1) z) ≡ comment_end n (drop n z)
comment_on n z h is_not = on n n z h is_not
  where
    on : (m n : ℕ) (z : List ℕ) → n < length z → ends_here (drop n z) ≡ false → comment_end (m + 1) (drop (n + 1) z) ≡ comment_end m (drop n z)
    on m n [] h is_not = absurd (omega (arith, h))
    on m zero (b ∷ z) h is_not = rw is_not refl
    on m (suc n) (b ∷ z) h is_not = let k : suc n + 1 ≡ suc (n + 1) = omega arith in rw k (on m n z (omega (arith, h)) is_not)

pub comment_here : (n : ℕ) (z : List ℕ) → n < length z → ends_here (drop n z) ≡ true → comment_end n (drop n z) ≡ Some (n + 2)
comment_here n z h is_so = here n n z h is_so
  where
    here : (m n : ℕ) (z : List ℕ) → n < length z → ends_here (drop n z) ≡ true → comment_end m (drop n z) ≡ Some (m + 2)
    here m n [] h is_so = absurd (omega (arith, h))
    here m zero (b ∷ z) h is_so = rw is_so refl
    here m (suc n) (b ∷ z) h is_so = here m n z (omega (arith, h)) is_so

pub comment_none : (n : ℕ) (z : List ℕ) → length z ≤ n → comment_end n (drop n z) ≡ None
comment_none n z h = none n n z h
  where
    none : (m n : ℕ) (z : List ℕ) → length z ≤ n → comment_end m (drop n z) ≡ None
    none m zero [] h = refl
    none m (suc n) [] h = refl
    none m zero (b ∷ z) h = absurd (omega (arith, h))
    none m (suc n) (b ∷ z) h = none m n z (omega (arith, h))
