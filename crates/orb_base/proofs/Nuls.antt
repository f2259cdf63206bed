-- The first byte that is 0 is at the first place whose byte is 0.
use Rattle.std.proofs.Common.{◌≡◌, ◌==◌, ℕ, Bool, cond, List, length, Option, Some, None, sym, ap, ◌∙◌, arith}
use Rattle.std.specs.List.{position_or_len}
use Rattle.std.specs.Prelude.{slice_index, nat_lt}
use Rattle.std.proofs.lemmas.List.Sums.{position_or_len_is}
use Rattle.std.proofs.lemmas.Bool.{false_from_ne_true}
use Rattle.memchr.specs.Find.{IsFirstByte, is_byte}
use Rattle.orb_base.specs.NulFree.{nul_at}

is_nul : ℕ → Bool
is_nul b = b == 0

-- the place, as an option
placed : List ℕ → ℕ → Option ℕ
placed xs n = cond (nat_lt n (length xs)) (Some n) None

pub first_place : (xs : List ℕ) (r : Option ℕ) → IsFirstByte (is_byte 0) xs r → r ≡ nul_at xs
unfolding is_nul placed
first_place xs None h =
    let n : position_or_len is_nul xs ≡ length xs =
    position_or_len_is is_nul xs (length xs) 0 (omega arith) (λ k below. false_from_ne_true (is_nul (slice_index xs k)) (h k (omega arith) below)) (λ below. absurd (omega (arith, below))) in
    sym (ap (placed xs) n ∙ search (arith))
first_place xs (Some k) h =
    let n : position_or_len is_nul xs ≡ k =
    position_or_len_is is_nul xs k 0 (omega (arith, h.0.high)) (λ j below. false_from_ne_true (is_nul (slice_index xs j)) (h.0.before j (omega arith) below)) (λ below. h.1) in
    sym (ap (placed xs) n ∙ search (arith, h.0.high))
