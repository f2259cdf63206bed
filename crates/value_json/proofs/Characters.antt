-- Characters whose codes are those of bytes.
use Rattle.std.proofs.Common.{◌≡◌, ℕ, suc, length, take, drop, get_or, ◌+◌, ◌-◌, ◌/◌, ◌%◌, ◌<◌, ◌≤◌, ◌&&◌, Bool, true, false, ltb, lt-ltb, le-ltb, List, [], ◌∷◌, ◌++◌, Some, None, refl, sym, ap, ◌∙◌, arith, append_assoc, nat_eq, eqb, bytes_eq, chars, encode_utf8_all, IsAscii}
use Rattle.std.specs.Char.{encode_utf8}
use Rattle.std.proofs.lemmas.Bool.{and_parts, eqb-true, eq-eqb, ne_eqb}
use Rattle.std.specs.Str.{IsUtf8}
use Rattle.std.proofs.lemmas.List.{append-nil, take_all}
use Rattle.std.proofs.lemmas.Str.{chars-IsAscii, encodes-chars, encode_ascii}
use Rattle.std.specs.Prelude.{slice_get}
use Rattle.value_json.specs.Numerals.{only}
use Rattle.value_json.specs.Texts.{are_bytes, where_so}

false_by : (b : Bool) → (b ≡ true → ⊥) → b ≡ false
false_by true h = absurd (h refl)
false_by false h = refl

and_none : (b : Bool) → (b && false) ≡ false
and_none true = refl
and_none false = refl

-- ---- ASCII

pub ascii_text : (bs : List ℕ) → IsAscii bs → IsUtf8 bs → encode_utf8_all bs ≡ bs
ascii_text bs a u = sym (ap encode_utf8_all (chars-IsAscii bs a)) ∙ encodes-chars bs u

-- ---- the text of the codes that are left

pub text_more : (before bs more : List ℕ) (b : ℕ) (total : List ℕ) → bs ≡ b ∷ more → before ++ encode_utf8_all bs ≡ total → (before ++ encode_utf8 b) ++ encode_utf8_all more ≡ total
text_more before bs more b total is h =
    let here : before ++ encode_utf8_all bs ≡ (before ++ encode_utf8 b) ++ encode_utf8_all more = rw is (sym (append_assoc before (encode_utf8 b) (encode_utf8_all more))) in
    sym here ∙ h

pub text_done : (before bs total : List ℕ) → bs ≡ [] → before ++ encode_utf8_all bs ≡ total → before ≡ total
text_done before bs total none h =
    let here : before ++ encode_utf8_all bs ≡ before = rw none (append-nil before) in
    sym here ∙ h

-- ---- whether a text is that of the codes that are left

pub long_code : (c : ℕ) → 128 ≤ c → c < 256 → encode_utf8 c ≡ (192 + c / 64) ∷ (128 + c % 64) ∷ []
unfolding encode_utf8
long_code c low high =
    let first : ltb c 128 ≡ false = grind arith in
    let second : ltb c 2048 ≡ true = lt-ltb c 2048 (omega arith) in
    rw (first, second) refl

-- ---- the bytes of the characters that are left

-- what was taken, and what is left, is the whole, and the left ones are bytes where all are
abbrev pub Splits : List ℕ → List ℕ → List ℕ → Type 0
Splits before cs whole = (before ++ cs ≡ whole) × (are_bytes cs ≡ are_bytes whole)

pub bytes_on : (before cs more whole : List ℕ) (c : ℕ) → cs ≡ c ∷ more → c < 256 → Splits before cs whole → Splits (before ++ c ∷ []) more whole
bytes_on before cs more whole c is low h =
    let here : before ++ cs ≡ (before ++ c ∷ []) ++ more = rw is (sym (append_assoc before (c ∷ []) more)) in
    let small : ltb c 256 ≡ true = lt-ltb c 256 low in
    let same : are_bytes cs ≡ are_bytes more = rw (is, small) refl in
    (sym here ∙ h.0, sym same ∙ h.1)

pub bytes_fail : (before cs more whole : List ℕ) (c : ℕ) → cs ≡ c ∷ more → 255 < c → Splits before cs whole → where_so are_bytes whole ≡ None
bytes_fail before cs more whole c is high h =
    let big : ltb c 256 ≡ false = le-ltb c 256 (omega arith) in
    let some : are_bytes cs ≡ false = rw (is, big) refl in
    let all : are_bytes whole ≡ false = sym h.1 ∙ some in
    rw all refl

pub bytes_done : (before cs whole : List ℕ) → cs ≡ [] → Splits before cs whole → where_so are_bytes whole ≡ Some before
bytes_done before cs whole none h =
    let last : are_bytes cs ≡ true = rw none refl in
    let all : are_bytes whole ≡ true = sym h.1 ∙ last in
    let same : before ++ cs ≡ before = rw none (append-nil before) in
    rw all (ap Some (sym h.0 ∙ same))

-- ---- a text of one character

pub only_none : (cs : List ℕ) → None ≡ slice_get cs 0 → None ≡ only cs
only_none [] e = refl
only_none (c ∷ cs) e = absurd (cc)

pub only_one : (cs ds : List ℕ) (c : ℕ) → cs ≡ c ∷ ds → None ≡ slice_get ds 0 → Some c ≡ only cs
only_one cs [] c is e = rw is refl
only_one cs (d ∷ ds) c is e = absurd (cc)

pub only_more : (cs ds : List ℕ) (c d : ℕ) → cs ≡ c ∷ ds → Some d ≡ slice_get ds 0 → None ≡ only cs
only_more cs [] c d is e = absurd (cc)
only_more cs (x ∷ ds) c d is e = rw is refl

-- ---- whether a text is that of the codes that are left, code by code

pub short_on : (cs more rest later : List ℕ) (c r : ℕ) (total : Bool) → cs ≡ c ∷ more → rest ≡ r ∷ later → c < 128 → r ≡ c
    → bytes_eq (encode_utf8_all cs) rest ≡ total → bytes_eq (encode_utf8_all more) later ≡ total
short_on cs more rest later c r total is it low same h =
    let here : bytes_eq (encode_utf8_all cs) rest ≡ bytes_eq (encode_utf8_all more) later = rw (is, it, encode_ascii c low, eq-eqb c r (sym same)) refl in
    sym here ∙ h

pub short_off : (cs more rest later : List ℕ) (c r : ℕ) (total : Bool) → cs ≡ c ∷ more → rest ≡ r ∷ later → c < 128 → (r ≡ c → ⊥)
    → bytes_eq (encode_utf8_all cs) rest ≡ total → false ≡ total
short_off cs more rest later c r total is it low other h =
    let here : bytes_eq (encode_utf8_all cs) rest ≡ false = rw (is, it, encode_ascii c low, ne_eqb c r (λ e. other (sym e))) refl in
    sym here ∙ h

pub short_end : (cs more rest : List ℕ) (c : ℕ) (total : Bool) → cs ≡ c ∷ more → length rest < 1 → c < 128 → bytes_eq (encode_utf8_all cs) rest ≡ total → false ≡ total
short_end cs more [] c total is few low h =
    let here : bytes_eq (encode_utf8_all cs) [] ≡ false = rw (is, encode_ascii c low) refl in
    sym here ∙ h
short_end cs more (r ∷ rest) c total is few low h = absurd (omega arith)

pub long_on : (cs more rest later : List ℕ) (c r s : ℕ) (total : Bool) → cs ≡ c ∷ more → rest ≡ r ∷ s ∷ later → 128 ≤ c → c < 256 → r ≡ 192 + c / 64 → s ≡ 128 + c % 64
    → bytes_eq (encode_utf8_all cs) rest ≡ total → bytes_eq (encode_utf8_all more) later ≡ total
long_on cs more rest later c r s total is it low high first second h =
    let here : bytes_eq (encode_utf8_all cs) rest ≡ bytes_eq (encode_utf8_all more) later =
    rw (is, it, long_code c low high, eq-eqb _ r (sym first), eq-eqb _ s (sym second)) refl in
    sym here ∙ h

pub long_off : (cs more rest later : List ℕ) (c r s : ℕ) (total : Bool) → cs ≡ c ∷ more → rest ≡ r ∷ s ∷ later → 128 ≤ c → c < 256 → (r ≡ 192 + c / 64 → s ≡ 128 + c % 64 → ⊥)
    → bytes_eq (encode_utf8_all cs) rest ≡ total → false ≡ total
long_off cs more rest later c r s total is it low high other h =
    let here : bytes_eq (encode_utf8_all cs) rest ≡ (nat_eq (192 + c / 64) r && (nat_eq (128 + c % 64) s && bytes_eq (encode_utf8_all more) later)) = rw (is, it, long_code c low high) refl in
    let off : (nat_eq (192 + c / 64) r && (nat_eq (128 + c % 64) s && bytes_eq (encode_utf8_all more) later)) ≡ false =
    false_by _ (λ e.
    let one = and_parts (nat_eq (192 + c / 64) r) _ e in
    let two = and_parts (nat_eq (128 + c % 64) s) _ one.1 in
    other (sym (eqb-true _ r one.0)) (sym (eqb-true _ s two.0))) in
    sym off ∙ (sym here ∙ h)

pub long_end : (cs more rest : List ℕ) (c : ℕ) (total : Bool) → cs ≡ c ∷ more → length rest < 2 → 128 ≤ c → c < 256 → bytes_eq (encode_utf8_all cs) rest ≡ total → false ≡ total
long_end cs more [] c total is few low high h =
    let here : bytes_eq (encode_utf8_all cs) [] ≡ false = rw (is, long_code c low high) refl in
    sym here ∙ h
long_end cs more (r ∷ []) c total is few low high h =
    let here : bytes_eq (encode_utf8_all cs) (r ∷ []) ≡ false = rw (is, long_code c low high) (and_none (nat_eq (192 + c / 64) r)) in
    sym here ∙ h
long_end cs more (r ∷ s ∷ rest) c total is few low high h = absurd (omega arith)

pub text_end : (cs rest : List ℕ) (total : Bool) → cs ≡ [] → bytes_eq (encode_utf8_all cs) rest ≡ total → eqb (length rest) 0 ≡ total
text_end cs [] total none h = let here : bytes_eq (encode_utf8_all cs) [] ≡ true = rw none refl in sym here ∙ h
text_end cs (r ∷ rest) total none h =
    let here : bytes_eq (encode_utf8_all cs) (r ∷ rest) ≡ false = rw none refl in
    let some : eqb (suc (length rest)) 0 ≡ false = grind arith in
    some ∙ (sym here ∙ h)

-- ---- the codes of a text in ASCII

ascii_bytes : (bs : List ℕ) → IsAscii bs → are_bytes bs ≡ true
ascii_bytes [] a = refl
ascii_bytes (b ∷ bs) a =
    let low : b < 128 = a 0 in
    let small : ltb b 256 ≡ true = lt-ltb b 256 (omega arith) in
    rw small (ascii_bytes bs (λ i. a (suc i)))

pub ascii_codes : (bs xs : List ℕ) → IsAscii bs → xs ≡ bs → where_so are_bytes (chars bs) ≡ Some xs
ascii_codes bs xs a e = rw (chars-IsAscii bs a, ascii_bytes bs a, e) refl

pub two_first : (xs : List ℕ) → 2 ≤ length xs → xs ≡ get_or xs 0 0 ∷ get_or xs 1 0 ∷ take (length xs - 2) (drop 2 xs)
two_first [] h = absurd (omega arith)
two_first (x ∷ []) h = absurd (omega arith)
two_first (x ∷ y ∷ xs) h = let all : take (suc (suc (length xs)) - 2) xs ≡ xs = take_all _ xs (omega arith) in rw all refl
