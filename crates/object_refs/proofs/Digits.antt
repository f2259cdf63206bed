-- Decimal digits, and the ports that they name.
use Rattle.std.proofs.Common.{◌≡◌, ℕ, ◌^◌, ◌<◌, Bool, true, false, leb, ltb, cond, List, [], ◌∷◌}
use Rattle.std.proofs.Common.{length, Option, Some, None, Result, Err, refl, sym, arith}
use Rattle.std.specs.Char.{is_ascii_digit}
use Rattle.std.specs.List.{list_all}
use Rattle.std.specs.Str.{IsUtf8, IsAscii}
use Rattle.std.specs.Str.Parse.{digits_value, ParsesUnsigned}
use Rattle.std.specs.Result.{OkIff}
use Rattle.std.proofs.lemmas.Bool.{and_parts, leb-true, le-leb, ltb-true, and_from}
use Rattle.std.proofs.lemmas.Str.{IsUtf8-from_ascii}
use Rattle.std.proofs.lemmas.Str.Ascii.{IsAscii-nil, IsAscii-cons}
use Rattle.std.proofs.lemmas.Str.Parse.{IsDigitsTest, IsNumeralModel, numerals_by_value, parse_digits}
use Rattle.object_refs.specs.LocationReading.{port_number}

abbrev AreDigits : List ℕ → Type 0
AreDigits ds = list_all is_ascii_digit ds ≡ true

tells_digits : IsDigitsTest AreDigits
tells_digits = record {
  empty = refl;
  parts = λ c cs e.
      let k = and_parts (is_ascii_digit c) (list_all is_ascii_digit cs) e in
      let m = and_parts (leb 48 c) (leb c 57) k.0 in
      ((leb-true 48 c m.0, leb-true c 57 m.1), k.1);
  more = λ c cs k e.
      let digit = and_from (leb 48 c) (leb c 57) (le-leb 48 c k.0) (le-leb c 57 k.1) in
      and_from (is_ascii_digit c) (list_all is_ascii_digit cs) digit e;
}

digits_model : IsNumeralModel AreDigits (digits_value 10)
digits_model = numerals_by_value AreDigits tells_digits

digits_ascii : (ds : List ℕ) → AreDigits ds → IsAscii ds
digits_ascii [] e = IsAscii-nil
digits_ascii (c ∷ cs) e =
    let k = tells_digits.parts c cs e in
    IsAscii-cons c cs (omega (arith, k.0.1)) (digits_ascii cs k.1)

pub digits_utf8 : (ds : List ℕ) → list_all is_ascii_digit ds ≡ true → IsUtf8 ds
digits_utf8 ds e = IsUtf8-from_ascii ds (digits_ascii ds e)

pub parsed : {E : Type 0} (ds : List ℕ) (r : Result ℕ E) → ParsesUnsigned 16 10 ds r
    → list_all is_ascii_digit ds ≡ true
    → OkIff r ((0 < length ds) × (digits_value 10 ds < 2 ^ 16)) (digits_value 10 ds)
parsed ds r h e = parse_digits digits_model 16 ds r h e

guard_none : (b : Bool) (x : ℕ) → (b ≡ true → ⊥) → ◌≡◌ {A = Option ℕ} (cond b (Some x) None) None
guard_none true x h = absurd (h refl)
guard_none false x h = refl

some_digit : (ds : List ℕ) → 0 < digits_value 10 ds → 0 < length ds
some_digit [] h = h
some_digit (d ∷ ds) h = omega arith

-- the number is 0 or too great, so that no port is there
port_none : (most : ℕ) (ds : List ℕ) → ((0 < length ds) × (0 < digits_value 10 ds) × (digits_value 10 ds < 2 ^ 16) → ⊥)
    → port_number most ds ≡ None
unfolding port_number
port_none most ds never = guard_none _ _ (λ e.
    let small = and_parts _ (ltb (digits_value 10 ds) (2 ^ 16)) e in
    let some = and_parts _ (ltb 0 (digits_value 10 ds)) small.0 in
    let positive : 0 < digits_value 10 ds = ltb-true _ _ some.1 in
    never (some_digit ds positive, positive, ltb-true _ _ small.1))

-- a number that doesn't parse
pub port_unparsed : {E : Type 0} (most : ℕ) (ds : List ℕ) (e : E) → ParsesUnsigned 16 10 ds (Err e)
    → list_all is_ascii_digit ds ≡ true → None ≡ port_number most ds
port_unparsed {E} most ds e h digits =
    let never : ¬ ((0 < length ds) × (digits_value 10 ds < 2 ^ 16)) = parsed {E = E} ds (Err e) h digits in
    sym (port_none most ds (λ p. never (p.0, p.2)))
