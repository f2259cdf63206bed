-- A number of a type that is printed reads back as that number.
use Rattle.std.proofs.Common.{◌≡◌, ◌∙◌, ℕ, zero, suc, ℤ, pos, negsuc, neg_ℤ, ◌+◌, ◌-◌, ◌<◌, ◌≤◌, ◌^◌, ◌&&◌, min, Bool, true, false, true≢false, not, List, [], ◌∷◌, length, Some, refl, sym, ap, arith, ltb-true, leb-true, lt-ltb, le-leb, lit≤, bytes_eq, chars, encode_utf8_all}
use Rattle.std.specs.Prelude.{int_le, int_lt, nat_le, nat_lt, slice_get, unwrap_or}
use Rattle.std.specs.List.{list_any, prefix_len}
use Rattle.std.proofs.lemmas.Bool.{and_parts, or_parts, not-true}
use Rattle.std.proofs.lemmas.Option.{slice_get-get_or}
use Rattle.std.proofs.lemmas.Str.{chars-encodes, encodes_same}
use Rattle.std.proofs.lemmas.Slice.Eq.{bytes_eq-Decides}
use lib.Utf8.{scalar, low_scalar}
use Rattle.cdr_values.specs.Lawful.{differ, is_lawful_scalar}
use Rattle.cdr_values.specs.Spelling.{lowest, limit}
use Rattle.cdr_values.specs.Trees.{Size, size1, size2, size4, size8, Scalar, boolean, char, unsigned, signed, enumeration}
use Rattle.value_json.specs.Numerals.{numeral_data, numeral_in, label_data, label_in}
use Rattle.value_json.specs.Texts.{text_of}

abbrev pub in_range : Scalar → ℤ → Bool
in_range s z = int_le (lowest s) z && int_lt z (limit s)

pub small_scalar : (c : ℕ) → nat_lt c 256 ≡ true → scalar c ≡ true
small_scalar c small = let low : c < 256 = ltb-true c 256 small in low_scalar c (omega arith)

pub one_back : (c : ℕ) → nat_lt c 256 ≡ true → chars (encode_utf8_all (c ∷ [])) ≡ c ∷ []
one_back c small = chars-encodes (c ∷ []) (rw (small_scalar c small) refl)

-- ---- labels

apart : (x y : List ℕ) → bytes_eq x y ≡ false → bytes_eq (text_of y) (text_of x) ≡ true → ⊥
apart x y e same = true≢false (sym ((bytes_eq-Decides x y).1 (sym (encodes_same y x ((bytes_eq-Decides (text_of y) (text_of x)).0 same)))) ∙ e)

false_by : (b : Bool) → (b ≡ true → ⊥) → b ≡ false
false_by true h = absurd (h refl)
false_by false h = refl

other_text : (x : List ℕ) (xs : List (List ℕ)) (n : ℕ) (l : List ℕ) → list_any (λ y. bytes_eq y x) xs ≡ false → slice_get xs n ≡ Some l → bytes_eq (text_of x) (text_of l) ≡ false
other_text x [] n l h g = absurd (cc)
other_text x (y ∷ ys) zero l h g =
    let same : y ≡ l = ap (λ o. unwrap_or o y) g in
    let parts = or_parts (bytes_eq y x) _ h in
    false_by (bytes_eq (text_of x) (text_of l)) (λ e. apart y x parts.0 (rw same e))
other_text x (y ∷ ys) (suc n) l h g = other_text x ys n l (or_parts (bytes_eq y x) _ h).1 g

same_text : (l : List ℕ) → bytes_eq (text_of l) (text_of l) ≡ true
same_text l = (bytes_eq-Decides (text_of l) (text_of l)).1 refl

label_place : (labels : List (List ℕ)) (n : ℕ) (l : List ℕ) → differ bytes_eq labels ≡ true → slice_get labels n ≡ Some l
    → prefix_len (λ m. not (bytes_eq (text_of m) (text_of l))) labels ≡ n
label_place [] n l d g = absurd (cc)
label_place (x ∷ xs) zero l d g =
    let same : x ≡ l = ap (λ o. unwrap_or o x) g in
    rw (same, same_text l) refl
label_place (x ∷ xs) (suc n) l d g =
    let parts = and_parts (not (list_any (λ y. bytes_eq y x) xs)) _ d in
    let end : 1 + n ≡ suc n = omega arith in
    rw (other_text x xs n l (not-true _ parts.0) g, label_place xs n l parts.1 g) end

label_back : (name : List ℕ) (labels : List (List ℕ)) (n : ℕ) → differ bytes_eq labels ≡ true → nat_lt n (min (length labels) (2 ^ 32)) ≡ true
    → label_in labels (label_data labels (pos n)) ≡ Some (pos n)
label_back name labels n d h =
    let small : n < min (length labels) (2 ^ 32) = ltb-true n _ h in
    let inside : n < length labels = omega arith in
    let low : nat_lt n (2 ^ 32) ≡ true = lt-ltb n (2 ^ 32) (omega arith) in
    let found = slice_get-get_or labels n [] inside in
    let within : nat_lt n (length labels) ≡ true = lt-ltb n (length labels) inside in
    rw (low, found, label_place labels n _ d found, within, low) refl

-- ---- integers

pub wide_enough : (n k : ℕ) → nat_lt n k ≡ true → k ≤ 2 ^ 64 → nat_lt n (2 ^ 64) ≡ true
wide_enough n k h fits = let low : n < k = ltb-true n k h in lt-ltb n (2 ^ 64) (omega arith)

unsigned_back : (s : Size) (n : ℕ) → int_lt (pos n) (limit (unsigned s)) ≡ true → nat_lt n (2 ^ 64) ≡ true
unsigned_back size1 n h = wide_enough n (2 ^ 8) h (lit≤ tt)
unsigned_back size2 n h = wide_enough n (2 ^ 16) h (lit≤ tt)
unsigned_back size4 n h = wide_enough n (2 ^ 32) h (lit≤ tt)
unsigned_back size8 n h = wide_enough n (2 ^ 64) h (lit≤ tt)

signed_back : (s : Size) (n : ℕ) → int_lt (pos n) (limit (signed s)) ≡ true → nat_lt n (2 ^ 64) ≡ true
signed_back size1 n h = wide_enough n (2 ^ 7) h (lit≤ tt)
signed_back size2 n h = wide_enough n (2 ^ 15) h (lit≤ tt)
signed_back size4 n h = wide_enough n (2 ^ 31) h (lit≤ tt)
signed_back size8 n h = wide_enough n (2 ^ 63) h (lit≤ tt)

low_enough : (n k : ℕ) → nat_le n k ≡ true → k ≤ 2 ^ 63 - 1 → nat_le n (2 ^ 63 - 1) ≡ true
low_enough n k h fits = let low : n ≤ k = leb-true n k h in le-leb n (2 ^ 63 - 1) (omega arith)

negative_back : (s : Size) (n : ℕ) → int_le (lowest (signed s)) (negsuc n) ≡ true → int_le (neg_ℤ (pos (2 ^ 63))) (negsuc n) ≡ true
negative_back size1 n h = low_enough n 127 h (lit≤ tt)
negative_back size2 n h = low_enough n 32767 h (lit≤ tt)
negative_back size4 n h = low_enough n 2147483647 h (lit≤ tt)
negative_back size8 n h = h

-- ---- any number

pub two_only : (n : ℕ) → nat_lt (suc (suc n)) 2 ≡ true → ⊥
two_only n h = let low : suc (suc n) < 2 = ltb-true (suc (suc n)) 2 h in omega arith

pub numeral_back : (s : Scalar) (z : ℤ) → is_lawful_scalar s ≡ true → in_range s z ≡ true → numeral_in s (numeral_data s z) ≡ Some z
unfolding numeral_in
numeral_back boolean (pos zero) l h = refl
numeral_back boolean (pos (suc zero)) l h = refl
numeral_back boolean (pos (suc (suc n))) l h = absurd (two_only n (and_parts (int_le (pos 0) (pos (suc (suc n)))) _ h).1)
numeral_back boolean (negsuc n) l h = absurd (true≢false (sym h))
numeral_back char (pos c) l h = let small = (and_parts (int_le (pos 0) (pos c)) _ h).1 in rw (small, one_back c small, small) refl
numeral_back char (negsuc c) l h = absurd (true≢false (sym h))
numeral_back (unsigned s) (pos n) l h = let parts = and_parts (int_le (pos 0) (pos n)) _ h in rw (unsigned_back s n parts.1, h) refl
numeral_back (unsigned s) (negsuc n) l h = absurd (true≢false (sym h))
numeral_back (signed s) (pos n) l h = let parts = and_parts (int_le (lowest (signed s)) (pos n)) _ h in rw (signed_back s n parts.1, h) refl
numeral_back (signed s) (negsuc n) l h = let parts = and_parts (int_le (lowest (signed s)) (negsuc n)) _ h in rw (negative_back s n parts.0, h) refl
numeral_back (enumeration name labels) (pos n) l h = label_back name labels n l (and_parts (int_le (pos 0) (pos n)) _ h).1
numeral_back (enumeration name labels) (negsuc n) l h = absurd (true≢false (sym h))
