-- Bits as marks.
use Rattle.std.proofs.Common.{◌≡◌, ℕ, ◌*◌, ◌/◌, ◌%◌, ◌^◌, ◌<◌, Bool, false, ◌||◌, List, length, get_or, replicate, inl, inr, sym, ap, ◌∙◌, arith}
use Rattle.std.specs.Prelude.{◌==◌, slice_set, bit_or}
use Rattle.std.specs.List.{slice_index_or}
use Rattle.std.specs.Int.{w64, bit_at}
use Rattle.std.proofs.lemmas.Bool.{cases_eq, cases_lt, eq-eqb, ne_eqb}
use Rattle.std.proofs.lemmas.List.{get_or-replicate, get_or-set_other, length-replicate}
use Rattle.std.proofs.lemmas.Grind.{get_or-set_at}
use Rattle.std.proofs.Math.ListN.{get_or-eq_default}
use Rattle.std.proofs.lemmas.Nat.Bits.{bit_at-zero, bit_at_set_same, bit_at_set_other}
use Rattle.idl_types.specs.Marked.{is_marked}

no_word : (m i : ℕ) → ◌≡◌ {A = ℕ} (get_or (replicate m 0) i 0) 0
no_word m i = elim (cases_lt i m) [
  | inl h ↦ get_or-replicate m i 0 0 h
  | inr h ↦ get_or-eq_default (replicate m 0) 0 {n = i} (omega (arith, length-replicate {A = ℕ} m 0))
]

pub unmarked : (m n : ℕ) → is_marked (replicate m 0) n ≡ false
unmarked m n = ap (λ (w : ℕ). bit_at w (n % 64) == 1) (no_word m (n / 64)) ∙ ap (λ (b : ℕ). b == 1) (bit_at-zero (n % 64))

-- the word with one more bit
abbrev pub with_bit : ℕ → ℕ → ℕ
with_bit word k = bit_or word (1 * 2 ^ k % 2 ^ 64)

pub marked_put : (words : List ℕ) (n k : ℕ) → n / 64 < length words
    → is_marked (slice_set words (n / 64) (with_bit (slice_index_or words (n / 64) 0) (n % 64))) k ≡ ((n == k) || is_marked words k)
marked_put words n k within = elim (cases_eq (k / 64) (n / 64)) [
  | inl e ↦ elim (cases_eq (k % 64) (n % 64)) [
    | inl f ↦ ap (λ (w : ℕ). bit_at w (k % 64) == 1) (get_or-set_at words (n / 64) (k / 64) (with_bit (slice_index_or words (n / 64) 0) (n % 64)) 0 e within)
        ∙ ap (λ (j : ℕ). bit_at (with_bit (slice_index_or words (n / 64) 0) (n % 64)) j == 1) f
        ∙ ap (λ (b : ℕ). b == 1) (bit_at_set_same w64 (slice_index_or words (n / 64) 0) (n % 64) (omega arith))
        ∙ sym (ap (λ (b : Bool). b || is_marked words k) (eq-eqb n k (omega arith)))
    | inr f ↦ ap (λ (w : ℕ). bit_at w (k % 64) == 1) (get_or-set_at words (n / 64) (k / 64) (with_bit (slice_index_or words (n / 64) 0) (n % 64)) 0 e within)
        ∙ ap (λ (b : ℕ). b == 1) (bit_at_set_other w64 (slice_index_or words (n / 64) 0) (n % 64) (omega arith) (k % 64) f)
        ∙ ap (λ (i : ℕ). bit_at (slice_index_or words i 0) (k % 64) == 1) (sym e)
        ∙ sym (ap (λ (b : Bool). b || is_marked words k) (ne_eqb n k (λ same. f (ap (λ (x : ℕ). x % 64) (sym same)))))
  ]
  | inr e ↦ ap (λ (w : ℕ). bit_at w (k % 64) == 1) (get_or-set_other words (n / 64) (k / 64) (with_bit (slice_index_or words (n / 64) 0) (n % 64)) 0 e)
      ∙ sym (ap (λ (b : Bool). b || is_marked words k) (ne_eqb n k (λ same. e (ap (λ (x : ℕ). x / 64) (sym same)))))
]
