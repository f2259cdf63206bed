-- Words that are numbers: what is read of a number's digits is that number, and nothing else has it.
use Rattle.std.proofs.Common.{leb, ltb, ◌≡◌, ℕ, ◌<◌, ◌≤◌, ◌^◌, suc, zero, Bool, true, false, cond, not, ◌&&◌, ◌||◌, ◌==◌, List, [], ◌∷◌, length, get_or, Option, Some, None, Result, Err, refl, sym, ap, subst, ◌∙◌, inl, inr, arith}
use Rattle.std.specs.Prelude.{if◌then◌else◌, nat_lt}
use Rattle.std.specs.Char.{is_ascii_digit}
use Rattle.std.specs.Fmt.{decimal}
use Rattle.std.specs.List.{list_all}
use Rattle.std.specs.Result.{OkIff}
use Rattle.std.specs.Str.{IsUtf8, IsAscii}
use Rattle.std.specs.Str.Parse.{digits_value, ParsesUnsigned}
use Rattle.std.proofs.lemmas.Bool.{and_parts, and_from, or_cases, or_left, or_right, both_ways, eqb-true, leb-true, le-leb, ltb-true, lt-ltb, cases_eq, ne_eqb}
use Rattle.std.proofs.Common.{eq-eqb}
use Rattle.std.proofs.lemmas.Fmt.{decimal_is_IsNumeral, decimal_digit, decimal-digits_value, digits_decimal, first_decimal}
use Rattle.std.proofs.lemmas.Option.{cond_some}
use Rattle.std.proofs.lemmas.Str.{IsUtf8-from_ascii}
use Rattle.std.proofs.lemmas.Str.Ascii.{IsAscii-nil, IsAscii-cons}
use Rattle.std.proofs.lemmas.Str.Parse.{IsDigitsTest, IsNumeralModel, numerals_by_value, parse_digits}
use Rattle.trace_reading.specs.Words.{is_plain, is_numeral, number_in}

abbrev AreDigits : List ℕ → Type 0
AreDigits ds = list_all is_ascii_digit ds ≡ true

tells_digits : IsDigitsTest AreDigits
tells_digits = record {
  empty = refl;
  parts = λ c cs e.
      let k = and_parts (is_ascii_digit c) (list_all is_ascii_digit cs) e in
      let m = and_parts (leb 48 c) (leb c 57) k.0 in
      ((leb-true 48 c m.0, leb-true c 57 m.1), k.1);
  more = λ c cs k e.
      let digit = and_from (leb 48 c) (leb c 57) (le-leb 48 c k.0) (le-leb c 57 k.1) in
      and_from (is_ascii_digit c) (list_all is_ascii_digit cs) digit e;
}

digits_model : IsNumeralModel AreDigits (digits_value 10)
digits_model = numerals_by_value AreDigits tells_digits

digits_ascii : (ds : List ℕ) → AreDigits ds → IsAscii ds
digits_ascii [] e = IsAscii-nil
digits_ascii (c ∷ cs) e =
    let k = tells_digits.parts c cs e in
    IsAscii-cons c cs (omega (arith, k.0.1)) (digits_ascii cs k.1)

-- digits are text
digits_utf8 : (ds : List ℕ) → list_all is_ascii_digit ds ≡ true → IsUtf8 ds
digits_utf8 ds e = IsUtf8-from_ascii ds (digits_ascii ds e)

-- the parts of a numeral
numeral_parts : (w : List ℕ) → is_numeral w ≡ true → (0 < length w) × (get_or w 0 0 ≡ 48 → length w ≡ 1) × (list_all is_ascii_digit w ≡ true)
numeral_parts w e =
    let h = and_parts (is_plain (get_or w 0 0) (length w)) (list_all is_ascii_digit w) e in
    let k = and_parts (ltb 0 (length w)) (not (get_or w 0 0 == 48) || (length w == 1)) h.0 in (
      ltb-true 0 (length w) k.0,
      λ z. elim (or_cases (not (get_or w 0 0 == 48)) (length w == 1) k.1) [
        | inl n ↦ absurd (both_ways (not (get_or w 0 0 == 48)) (ap not (eq-eqb (get_or w 0 0) 48 z)) n)
        | inr o ↦ eqb-true (length w) 1 o
      ],
      h.1,
    )

numeral_from : (w : List ℕ) → 0 < length w → (get_or w 0 0 ≡ 48 → length w ≡ 1) → list_all is_ascii_digit w ≡ true → is_numeral w ≡ true
numeral_from w some lead all =
    let front : (not (get_or w 0 0 == 48) || (length w == 1)) ≡ true = elim (cases_eq (get_or w 0 0) 48) [
      | inl z ↦ or_right (not (get_or w 0 0 == 48)) (length w == 1) (eq-eqb (length w) 1 (lead z))
      | inr n ↦ or_left (not (get_or w 0 0 == 48)) (length w == 1) (ap not (ne_eqb (get_or w 0 0) 48 n))
    ] in
    and_from (is_plain (get_or w 0 0) (length w)) (list_all is_ascii_digit w)
    (and_from (ltb 0 (length w)) (not (get_or w 0 0 == 48) || (length w == 1)) (lt-ltb 0 (length w) some) front) all

-- a number's digits begin with a zero only at 0
leads : (n : ℕ) → n < 2 ^ 64 → get_or (decimal n) 0 0 ≡ 48 → length (decimal n) ≡ 1
leads zero small e = ap length (decimal_digit 0 (omega arith))
leads (suc n) small e = absurd (let f = first_decimal (suc n) (omega arith) small in omega arith)

-- the digits of a number
pub decimal_digits : (n : ℕ) → n < 2 ^ 64 → list_all is_ascii_digit (decimal n) ≡ true
decimal_digits n small = digits_decimal digits_model n small

-- a number is read back from its digits
pub number_back : (below n : ℕ) → n < 2 ^ 64 → n < below → number_in below (decimal n) ≡ Some n
unfolding number_in
number_back below n small within =
    let is = decimal_is_IsNumeral n small in
    let num = numeral_from (decimal n) is.0.0 (leads n small) (decimal_digits n small) in
    ap (λ (b : Bool). if b && nat_lt (digits_value 10 (decimal n)) below then Some (digits_value 10 (decimal n)) else None) num
    ∙ (ap (λ (v : ℕ). if nat_lt v below then Some v else None) is.1 ∙ ap (λ (b : Bool). if b then Some n else None) (lt-ltb n below within))

-- what is read as a number is its digits
pub number_was : (below n : ℕ) (w : List ℕ) → below ≤ 2 ^ 64 → number_in below w ≡ Some n → (w ≡ decimal n) × (n < below)
unfolding number_in
number_was below n w few e =
    let h = cond_some (is_numeral w && nat_lt (digits_value 10 w) below) (digits_value 10 w) n e in
    let k = and_parts (is_numeral w) (nat_lt (digits_value 10 w) below) h.0 in
    let m = numeral_parts w k.0 in
    let within = ltb-true (digits_value 10 w) below k.1 in
    (sym (decimal-digits_value digits_model w m.2 m.0 m.1 (omega arith)) ∙ ap decimal h.1, subst (λ (v : ℕ). v < below) h.1 within)

guard_none : (b : Bool) (x : ℕ) → (b ≡ true → ⊥) → ◌≡◌ {A = Option ℕ} (cond b (Some x) None) None
guard_none true x h = absurd (h refl)
guard_none false x h = refl

-- what parsing a numeral gives
numeral_parsed : {E : Type 0} (w : List ℕ) (r : Result ℕ E) → ParsesUnsigned 64 10 w r → is_numeral w ≡ true
    → OkIff r ((0 < length w) × (digits_value 10 w < 2 ^ 64)) (digits_value 10 w)
numeral_parsed w r h num = let m = numeral_parts w num in parse_digits digits_model 64 w r h m.2

-- digits that don't parse are no number below the bound
pub number_unparsed : {E : Type 0} (below : ℕ) (w : List ℕ) (e : E) → below ≤ 2 ^ 64 → ParsesUnsigned 64 10 w (Err e) → is_numeral w ≡ true → None ≡ number_in below w
unfolding number_in
number_unparsed {E} below w e few h num =
    let never : ¬ ((0 < length w) × (digits_value 10 w < 2 ^ 64)) = numeral_parsed {E = E} w (Err e) h num in
    let m = numeral_parts w num in
    sym (guard_none (is_numeral w && nat_lt (digits_value 10 w) below) (digits_value 10 w) (λ b.
    let k = and_parts (is_numeral w) (nat_lt (digits_value 10 w) below) b in
    let within = ltb-true (digits_value 10 w) below k.1 in
    never (m.0, omega arith)))

-- a numeral is text
pub numeral_utf8 : (w : List ℕ) → is_numeral w ≡ true → IsUtf8 w
numeral_utf8 w num = digits_utf8 w (numeral_parts w num).2
