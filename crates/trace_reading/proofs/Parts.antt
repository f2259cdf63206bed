-- A text cut into parts.
use Rattle.std.proofs.Common.{ltb, cond, ◌≡◌, ℕ, ◌+◌, ◌<◌, ◌≤◌, Bool, true, false, List, [], ◌∷◌, ◌++◌, length, get_or, take, drop, map, Option, Some, None, refl, sym, ap, ◌∙◌, arith, append_assoc}
use Rattle.std.specs.Prelude.{if◌then◌else◌, position}
use Rattle.std.specs.List.{slice_split, position_or_len}
use Rattle.std.proofs.lemmas.Bool.{ltb-false, lt-leb, le-leb}
use Rattle.std.proofs.lemmas.Option.{none-some}
use Rattle.std.proofs.lemmas.List.{map-append, take-append-drop, drop_more, get_or-take, get_or_default, length-take, length-append, length-map}
use Rattle.std.proofs.lemmas.List.Sums.{fails_before_first}
use Rattle.std.proofs.lemmas.List.Quantifiers.{position-Some}
use Rattle.std.proofs.lemmas.List.Splits.{slice_split_at, slice_split_none, length-slice_split}
use Rattle.trace_reading.specs.Words.{is_byte, parts_in}

-- the first part of a text
pub first_part : (p : ℕ → Bool) (xs : List ℕ) (n : ℕ) → position p xs ≡ Some n → slice_split p xs ≡ take n xs ∷ slice_split p (drop (n + 1) xs)
first_part p xs n e =
    let h = position-Some p xs n 0 e in
    let cut : xs ≡ take n xs ++ get_or xs n 0 ∷ drop (n + 1) xs = sym (take-append-drop n xs) ∙ ap (λ (z : List ℕ). take n xs ++ z) (drop_more xs n 0 h.0) in
    ap (slice_split p) cut
    ∙ slice_split_at p (take n xs) (get_or xs n 0) (drop (n + 1) xs) (λ k d l. let within : k < n = omega (arith, l, length-take n xs) in ap p (get_or-take n xs k d within ∙ get_or_default xs k d 0 (omega arith)) ∙ h.2 k within) h.1

-- one more part
pub parts_more : {W : Type 0} (now : W → List ℕ) (p : ℕ → Bool) (text rest : List ℕ) (items : List W) (w : W) (n : ℕ)
    → slice_split p text ≡ map now items ++ slice_split p rest → position p rest ≡ Some n → now w ≡ take n rest
    → slice_split p text ≡ map now (items ++ w ∷ []) ++ slice_split p (drop (n + 1) rest)
parts_more now p text rest items w n e at is =
    e ∙ ap (λ (z : List (List ℕ)). map now items ++ z) (first_part p rest n at ∙ ap (λ (z : List ℕ). z ∷ slice_split p (drop (n + 1) rest)) (sym is))
    ∙ sym (append_assoc (map now items) (now w ∷ []) (slice_split p (drop (n + 1) rest)))
    ∙ ap (λ (z : List (List ℕ)). z ++ slice_split p (drop (n + 1) rest)) (sym (map-append now items (w ∷ [])))

-- nothing is given only where a test fails
pub cond_none : (b : Bool) (n : ℕ) → ◌≡◌ {A = Option ℕ} (cond b (Some n) None) None → b ≡ false
cond_none true n e = absurd (none-some n (sym e))
cond_none false n e = refl

-- the only part of a text
pub last_part : (p : ℕ → Bool) (xs : List ℕ) → position p xs ≡ None → slice_split p xs ≡ xs ∷ []
last_part p xs e =
    let past = ltb-false (position_or_len p xs) (length xs) (cond_none (ltb (position_or_len p xs) (length xs)) (position_or_len p xs) e) in
    slice_split_none p xs (λ k d l. fails_before_first p xs k d (omega arith))

-- more parts than any line has
pub parts_many : {W : Type 0} (now : W → List ℕ) (by : ℕ) (text rest : List ℕ) (items : List W)
    → slice_split (is_byte by) text ≡ map now items ++ slice_split (is_byte by) rest → length items ≡ 12 → None ≡ parts_in by text
parts_many now by text rest items e full =
    let many : 12 < length (slice_split (is_byte by) text) =
    omega (arith, ap length e, length-append (map now items) (slice_split (is_byte by) rest), length-map items now, length-slice_split (is_byte by) rest) in
    ap (λ (b : Bool). if b then Some (slice_split (is_byte by) text) else None) (sym (lt-leb (length (slice_split (is_byte by) text)) 12 many))

-- all parts of a text
pub parts_all : {W : Type 0} (now : W → List ℕ) (by : ℕ) (text rest : List ℕ) (items : List W) (w : W)
    → slice_split (is_byte by) text ≡ map now items ++ slice_split (is_byte by) rest → position (is_byte by) rest ≡ None → now w ≡ rest → length items < 12
    → Some (map now (items ++ w ∷ [])) ≡ parts_in by text
parts_all now by text rest items w e none is few =
    let all : slice_split (is_byte by) text ≡ map now (items ++ w ∷ []) =
    e ∙ ap (λ (z : List (List ℕ)). map now items ++ z) (last_part (is_byte by) rest none ∙ ap (λ (z : List ℕ). z ∷ []) (sym is)) ∙ sym (map-append now items (w ∷ [])) in
    let short : length (slice_split (is_byte by) text) ≤ 12 =
    omega (arith, ap length all, length-map (items ++ w ∷ []) now, length-append items (w ∷ [])) in
    ap (λ (z : List (List ℕ)). Some z) (sym all)
    ∙ ap (λ (b : Bool). if b then Some (slice_split (is_byte by) text) else None) (sym (le-leb (length (slice_split (is_byte by) text)) 12 short))
