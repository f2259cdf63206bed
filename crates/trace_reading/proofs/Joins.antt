-- Parts that are joined by a byte and cut there again.
use Rattle.std.proofs.Common.{eq-eqb, ◌≡◌, ℕ, ◌<◌, ◌≤◌, ◌^◌, suc, zero, ltb, leb, Bool, true, false, List, [], ◌∷◌, ◌++◌, length, Some, None, refl, sym, ap, ◌∙◌, arith}
use Rattle.std.specs.Prelude.{if◌then◌else◌, nat_le}
use Rattle.std.specs.Char.{is_ascii_digit}
use Rattle.std.specs.Fmt.{decimal}
use Rattle.std.specs.List.{All, list_all, slice_split, join_with_byte}
use Rattle.std.proofs.lemmas.Bool.{and_parts, and_from, ltb-true, lt-ltb, ne_eqb, le-leb, leb-true}
use Rattle.std.proofs.lemmas.Option.{cond_some}
use Rattle.std.proofs.lemmas.List.Splits.{slice_split_at, slice_split_none, join_with_byte-slice_split}
use Rattle.trace_reading.specs.Words.{is_byte, parts_in}
use Rattle.trace_reading.proofs.Numerals.{decimal_digits}

-- every byte is above this one
abbrev pub above : ℕ → List ℕ → Bool
above by w = list_all (λ b. ltb by b) w

-- so it is in each of these parts
abbrev pub AreAbove : ℕ → List (List ℕ) → Type 0
AreAbove by [] = Unit {0}
AreAbove by (w ∷ ws) = (above by w ≡ true) × AreAbove by ws

pub above_none : (by : ℕ) (w : List ℕ) → above by w ≡ true → All (λ b. is_byte by b ≡ false) w
above_none by [] e k x h = absurd (omega arith)
above_none by (d ∷ ds) e zero x h = ne_eqb d by (λ z. let a = ltb-true by d (and_parts (ltb by d) (above by ds) e).0 in omega arith)
above_none by (d ∷ ds) e (suc k) x h = above_none by ds (and_parts (ltb by d) (above by ds) e).1 k x (omega arith)

pub above-append : (by : ℕ) (v w : List ℕ) → above by v ≡ true → above by w ≡ true → above by (v ++ w) ≡ true
above-append by [] w p q = q
above-append by (d ∷ ds) w p q =
    let h = and_parts (ltb by d) (above by ds) p in
    and_from (ltb by d) (above by (ds ++ w)) h.0 (above-append by ds w h.1 q)

pub above_less : (low by : ℕ) (w : List ℕ) → low ≤ by → above by w ≡ true → above low w ≡ true
above_less low by [] l e = refl
above_less low by (d ∷ ds) l e =
    let h = and_parts (ltb by d) (above by ds) e in
    let a = ltb-true by d h.0 in
    and_from (ltb low d) (above low ds) (lt-ltb low d (omega arith)) (above_less low by ds l h.1)

digits_above : (by : ℕ) (w : List ℕ) → by < 48 → list_all is_ascii_digit w ≡ true → above by w ≡ true
digits_above by [] l e = refl
digits_above by (d ∷ ds) l e =
    let h = and_parts (is_ascii_digit d) (list_all is_ascii_digit ds) e in
    let a = leb-true 48 d (and_parts (leb 48 d) (leb d 57) h.0).0 in
    and_from (ltb by d) (above by ds) (lt-ltb by d (omega arith)) (digits_above by ds l h.1)

pub decimal_above : (by n : ℕ) → by < 48 → n < 2 ^ 64 → above by (decimal n) ≡ true
decimal_above by n l small = digits_above by (decimal n) l (decimal_digits n small)

-- joined parts are cut into themselves
pub split_join : (by : ℕ) (w : List ℕ) (ws : List (List ℕ)) → AreAbove by (w ∷ ws) → slice_split (is_byte by) (join_with_byte by (w ∷ ws)) ≡ w ∷ ws
split_join by w [] e = slice_split_none (is_byte by) w (above_none by w e.0)
split_join by w (v ∷ vs) e =
    slice_split_at (is_byte by) w by (join_with_byte by (v ∷ vs)) (above_none by w e.0) (eq-eqb by by refl)
    ∙ ap (λ z. w ∷ z) (split_join by v vs e.1)

pub parts_back : (by : ℕ) (w : List ℕ) (ws : List (List ℕ)) → AreAbove by (w ∷ ws) → length (w ∷ ws) ≤ 12 → parts_in by (join_with_byte by (w ∷ ws)) ≡ Some (w ∷ ws)
parts_back by w ws e few =
    ap (λ (z : List (List ℕ)). if nat_le (length z) 12 then Some z else None) (split_join by w ws e)
    ∙ ap (λ (b : Bool). if b then Some (w ∷ ws) else None) (le-leb (length (w ∷ ws)) 12 few)

pub parts_was : (by : ℕ) (text : List ℕ) (ws : List (List ℕ)) → parts_in by text ≡ Some ws → text ≡ join_with_byte by ws
parts_was by text ws e =
    let h = cond_some (nat_le (length (slice_split (is_byte by) text)) 12) (slice_split (is_byte by) text) ws e in
    sym (join_with_byte-slice_split by text) ∙ ap (join_with_byte by) h.1

-- bytes above a blank, joined by one, are above a line feed
pub above_join : (ws : List (List ℕ)) → AreAbove 32 ws → above 10 (join_with_byte 32 ws) ≡ true
above_join [] e = refl
above_join (w ∷ []) e = above_less 10 32 w (omega arith) e.0
above_join (w ∷ v ∷ vs) e = above-append 10 w (32 ∷ join_with_byte 32 (v ∷ vs)) (above_less 10 32 w (omega arith) e.0) (above_join (v ∷ vs) e.1)
