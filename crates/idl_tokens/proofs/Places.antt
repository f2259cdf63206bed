-- The first place in a list of views.
use Rattle.std.proofs.Common.{◌≡◌, ◌≤◌, ltb-true, ◌+◌, ◌-◌, ◌<◌, arith, zero, ℕ, suc, Bool, true, false, not, cond, ltb, List, [], ◌∷◌, map, length, Option, Some, None, option_map, refl, sym, ap, ◌∙◌}
use Rattle.std.specs.Prelude.{if◌then◌else◌, ◌==◌}
use Rattle.std.specs.List.{position, position_or_len, prefix_len}

below : (b : Bool) (m len n : ℕ) → ltb m len ≡ b → cond b (Some m) None ≡ Some n → n ≤ len
below true m len n is e = let k : m ≡ n = cc in omega (arith, k, ltb-true m len is)
below false m len n is e = absurd cc

pub position_below : {X : Type 0} (p : X → Bool) (xs : List X) (n : ℕ) → position p xs ≡ Some n → n ≤ length xs
position_below p xs n e = below (ltb (position_or_len p xs) (length xs)) (position_or_len p xs) (length xs) n refl e

under : (b : Bool) (m len n : ℕ) → ltb m len ≡ b → cond b (Some m) None ≡ Some n → n < len
under true m len n is e = let k : m ≡ n = cc in omega (arith, k, ltb-true m len is)
under false m len n is e = absurd cc

pub position_within : {X : Type 0} (p : X → Bool) (xs : List X) (n : ℕ) → position p xs ≡ Some n → n < length xs
position_within p xs n e = under (ltb (position_or_len p xs) (length xs)) (position_or_len p xs) (length xs) n refl e
