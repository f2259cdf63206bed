-- Sets of numbers as bits.
use Rattle.std.proofs.Common.{◌≡◌, ℕ, ◌-◌, ◌*◌, ◌%◌, ◌^◌, ◌<◌, min, not, ◌==◌, ◌&&◌, ◌||◌, Some, None, inl, inr, sym, ap, ◌∙◌, arith}
use Rattle.std.specs.Int.{bit_at, bit_not, trailing_zeros, w64}
use Rattle.std.specs.Int.Bits.{bit_or, bit_and}
use Rattle.std.proofs.lemmas.Nat.Bits.{bit_at-zero, bit_at-trailing_zeros, bit_at_set_same, bit_at_set_other, bit_at_clear_same, bit_at_clear_other, bit_at_and, bit_at_above}
use Rattle.std.proofs.lemmas.Bool.{cases_eq, cases_lt, eq-eqb, ne_eqb, or_left, and_left}
use Rattle.thread_borrowing.specs.declared.mask.Mask.{Mask}
use Rattle.thread_borrowing.specs.Masks.{has, IsLeast, Gained, Lost}

-- a mask has the numbers of its bits
has_bit : (mask : Mask) (k bit : ℕ) → bit_at mask.bits k ≡ bit → has mask k ≡ (bit == 1)
unfolding has
has_bit mask k bit e = ap (λ n. n == 1) e

-- the same bit in two masks
same_bit : (old new : Mask) (k : ℕ) → bit_at new.bits k ≡ bit_at old.bits k → has new k ≡ has old k
unfolding has
same_bit old new k e = ap (λ n. n == 1) e

-- a mask of no bit
pub none_least : (mask : Mask) → mask.bits ≡ 0 → IsLeast mask None
none_least mask none k = has_bit mask k 0 (ap (λ n. bit_at n k) none ∙ bit_at-zero k)

-- the lowest bit is the least number
pub first_least : (mask : Mask) (least : ℕ) → (mask.bits ≡ 0 → ⊥) → mask.bits < 2 ^ 64 → least ≡ trailing_zeros w64 mask.bits → IsLeast mask (Some least)
first_least mask least some below is =
    let some' : 0 < mask.bits = omega arith in
    let first = bit_at-trailing_zeros w64 mask.bits some' below in (
      has_bit mask least 1 (ap (λ n. bit_at mask.bits n) is ∙ first.1),
      λ k before. let before' : k < trailing_zeros w64 mask.bits = omega (arith, is) in has_bit mask k 0 (first.2 k before'),
    )

-- a bit was set
pub set_gained : (number : ℕ) (old new : Mask) → number < 64 → new.bits ≡ bit_or old.bits (1 * 2 ^ number % 2 ^ 64) → Gained number old new
set_gained number old new within is = record {
  is = λ k. elim (cases_eq k number) [
    | inl same ↦ (has_bit new k 1 (ap (λ n. bit_at n k) is ∙ ap (λ n. bit_at (bit_or old.bits (1 * 2 ^ number % 2 ^ 64)) n) same ∙ bit_at_set_same w64 old.bits number within)
        ∙ sym (or_left (k == number) (has old k) (eq-eqb k number same)))
    | inr other ↦ (same_bit old new k (ap (λ n. bit_at n k) is ∙ bit_at_set_other w64 old.bits number within k other)
        ∙ ap (λ b. b || has old k) (sym (ne_eqb k number other)))
  ];
}

min_zero : (n : ℕ) → min 0 n ≡ 0
min_zero n = omega arith

-- a bit was cleared
pub clear_lost : (number : ℕ) (old new : Mask) → number < 64 → old.bits < 2 ^ 64 → new.bits ≡ bit_and old.bits (bit_not w64 (1 * 2 ^ number % 2 ^ 64)) → Lost number old new
clear_lost number old new within below is = record {
  is = λ k. elim (cases_eq k number) [
    | inl same ↦ (has_bit new k 0 (ap (λ n. bit_at n k) is ∙ ap (λ n. bit_at (bit_and old.bits (bit_not w64 (1 * 2 ^ number % 2 ^ 64))) n) same ∙ bit_at_clear_same w64 old.bits number within)
        ∙ sym (and_left (not (k == number)) (has old k) (ap not (eq-eqb k number same))))
    | inr other ↦ (same_bit old new k (ap (λ n. bit_at n k) is ∙ kept k other)
        ∙ ap (λ b. not b && has old k) (sym (ne_eqb k number other)))
  ];
}
  where
    kept : (k : ℕ) → (k ≡ number → ⊥) → bit_at (bit_and old.bits (bit_not w64 (1 * 2 ^ number % 2 ^ 64))) k ≡ bit_at old.bits k
    kept k other = elim (cases_lt k 64) [
      | inl low ↦ bit_at_clear_other w64 old.bits number within k low other
      | inr high ↦ (let none = bit_at_above old.bits 64 k below high in
          bit_at_and old.bits (bit_not w64 (1 * 2 ^ number % 2 ^ 64)) k ∙ ap (λ n. min n (bit_at (bit_not w64 (1 * 2 ^ number % 2 ^ 64)) k)) none ∙ min_zero (bit_at (bit_not w64 (1 * 2 ^ number % 2 ^ 64)) k) ∙ sym none)
    ]
