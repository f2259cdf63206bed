-- The numbers of an enum's labels.
use Rattle.std.proofs.Common.{◌≡◌, ℕ, ◌^◌, ◌<◌, ◌≤◌, Bool, true, false, cond, ltb, min, arith, refl}
use Rattle.std.proofs.lemmas.Bool.{lt-ltb, le-ltb}

pub in_range : (n len : ℕ) → n < 2 ^ 32 → n < len → ltb n (min len (2 ^ 32)) ≡ true
in_range n len a b = lt-ltb _ _ (omega (arith, min))

pub out_of_range : (n len : ℕ) → len ≤ n → ltb n (min len (2 ^ 32)) ≡ false
out_of_range n len a = le-ltb _ _ (omega arith)

pub too_great : (n len : ℕ) → 2 ^ 32 ≤ n → ltb n (min len (2 ^ 32)) ≡ false
too_great n len a = le-ltb _ _ (omega arith)
