-- Chars and enumerators by their numbers, as JSON.
use Rattle.std.proofs.Common.{◌≡◌, ◌⊎◌, inl, inr, ℕ, ℤ, pos, negsuc, ◌<◌, ◌≤◌, ◌^◌, true, ltb, lt-ltb, le-ltb, ltb-true, leb-true, List, [], ◌∷◌, Option, Some, None, option_map, option_and_then, bytes_eq, refl, arith}
use Rattle.std.specs.Prelude.{slice_get, position, unwrap_or, unsigned_abs, int_le}
use Rattle.std.specs.Int.{w8, w32, w64, FitsUnsigned}
use Rattle.std.specs.Prelude.{FitsSigned}
use Rattle.std.proofs.lemmas.Bool.{cases_lt, and_parts}
use Rattle.std.proofs.lemmas.Int.{ints}
use Rattle.serde_json.specs.Data as json
use Rattle.serde_json.specs.Data.{Data}
use Rattle.serde_json.specs.Find.{as_str}
use Rattle.cdr_values.specs.Trees.{Names}
use Rattle.cdr_values.specs.Trees as trees
use Rattle.value_json.specs.Numerals.{has_64_bits, letter_data, label_data, integer_in, label_in, as_label}
use Rattle.value_json.specs.Texts.{text_data, text_of}

pub letter_found : (z : ℤ) (c : ℕ) → FitsUnsigned w8 z → c ≡ unsigned_abs z → letter_data z ≡ text_data (c ∷ [])
letter_found (pos n) c h e =
    let high = h.1 in
    let low : n < 256 = omega (arith, ints, high) in
    let small : ltb n 256 ≡ true = lt-ltb n 256 low in
    rw (small, e) refl
letter_found (negsuc n) c h e = let low = h.0 in absurd (omega (arith, ints, low))

pub letter_none : (z : ℤ) → (FitsUnsigned w8 z → ⊥) → letter_data z ≡ json.null
letter_none (pos n) off = elim (cases_lt n 256) [ inl low ↦ absurd (off (omega (arith, ints), omega (arith, ints, low))) | inr high ↦ rw (le-ltb n 256 high) refl ]
letter_none (negsuc n) off = refl

pub label_found : (labels : List (List ℕ)) (z : ℤ) (n : ℕ) → FitsUnsigned w32 z → n ≡ unsigned_abs z
    → label_data labels z ≡ unwrap_or (option_map text_data (slice_get labels n)) json.null
label_found labels (pos m) n h e =
    let high = h.1 in
    let low : m < 2 ^ 32 = omega (arith, ints, high) in
    let small : ltb m (2 ^ 32) ≡ true = lt-ltb m (2 ^ 32) low in
    rw (small, e) refl
label_found labels (negsuc m) n h e = let low = h.0 in absurd (omega (arith, ints, low))

pub label_none : (labels : List (List ℕ)) (z : ℤ) → (FitsUnsigned w32 z → ⊥) → label_data labels z ≡ json.null
label_none labels (pos m) off = elim (cases_lt m (2 ^ 32)) [ inl low ↦ absurd (off (omega (arith, ints), omega (arith, ints, low))) | inr high ↦ rw (le-ltb m (2 ^ 32) high) refl ]
label_none labels (negsuc m) off = refl

-- 64 bits hold the number, with a sign or without
pub holds : (z : ℤ) → has_64_bits z ≡ true → FitsUnsigned w64 z ⊎ FitsSigned w64 z
holds (pos n) h =
    let low : n < 2 ^ 64 = ltb-true n (2 ^ 64) h in
    inl (omega (arith, ints), omega (arith, ints, low))
holds (negsuc n) h =
    let parts = and_parts (int_le (negsuc 9223372036854775807) (negsuc n)) _ h in
    let low : n ≤ 9223372036854775807 = leb-true n 9223372036854775807 parts.0 in
    inr (record { sfits = omega (arith, low) })

pub never_else : (z y : ℤ) (P : Type 0) → y ≡ z → has_64_bits z ≡ true → (FitsUnsigned w64 y → ⊥) × (FitsSigned w64 y → ⊥) → P
never_else z y P e h off = elim (holds z h) [ inl u ↦ absurd (off.0 (rw e u)) | inr s ↦ absurd (off.1 (rw e s)) ]

-- ---- an integer and an enumerator that are passed on

pub none_map : (low high l h : ℤ) (d : Data) → l ≡ low → h ≡ high → None ≡ integer_in l h d → option_map trees.number (integer_in low high d) ≡ None
none_map low high l h d e f g = rw (← e, ← f, ← g) refl

pub label_is : (r : Option ℕ) (labels held : Names) (s : List ℕ) (d : Data) (q : Option ℤ) → q ≡ option_and_then as_label r → r ≡ position (λ l. bytes_eq (text_of l) s) held
    → held ≡ labels → Some s ≡ as_str d → q ≡ label_in labels d
label_is r labels held s d q a b e f = rw (← f, ← e, ← b) a
