-- Decimal digits, and the numbers that they are.
use Rattle.std.proofs.Common.{◌≡◌, ℕ, ◌^◌, ◌<◌, Bool, true, false, leb, ltb, cond, List}
use Rattle.std.proofs.Common.{length, Option, Some, None, Err, refl, sym}
use Rattle.std.specs.Char.{is_ascii_digit}
use Rattle.std.specs.List.{list_all}
use Rattle.std.specs.Str.Parse.{digits_value, ParsesUnsigned}
use Rattle.std.proofs.lemmas.Bool.{and_parts, leb-true, le-leb, ltb-true, and_from}
use Rattle.std.proofs.lemmas.Str.Parse.{IsDigitsTest, IsNumeralModel, numerals_by_value, parse_digits}
use Rattle.command_options.specs.Numbers.{number_of}

abbrev AreDigits : List ℕ → Type 0
AreDigits ds = list_all is_ascii_digit ds ≡ true

tells_digits : IsDigitsTest AreDigits
tells_digits = record {
  empty = refl;
  parts = λ c cs e.
      let k = and_parts (is_ascii_digit c) (list_all is_ascii_digit cs) e in
      let m = and_parts (leb 48 c) (leb c 57) k.0 in
      ((leb-true 48 c m.0, leb-true c 57 m.1), k.1);
  more = λ c cs k e.
      let digit = and_from (leb 48 c) (leb c 57) (le-leb 48 c k.0) (le-leb c 57 k.1) in
      and_from (is_ascii_digit c) (list_all is_ascii_digit cs) digit e;
}

digits_model : IsNumeralModel AreDigits (digits_value 10)
digits_model = numerals_by_value AreDigits tells_digits

guard_none : (b : Bool) (x : ℕ) → (b ≡ true → ⊥) → ◌≡◌ {A = Option ℕ} (cond b (Some x) None) None
guard_none true x h = absurd (h refl)
guard_none false x h = refl

-- digits that don't parse are no number
pub number_unparsed : {E : Type 0} (ds : List ℕ) (e : E) → ParsesUnsigned 32 10 ds (Err e) → list_all is_ascii_digit ds ≡ true
    → None ≡ number_of ds
unfolding number_of
number_unparsed {E} ds e h digits =
    let never : ¬ ((0 < length ds) × (digits_value 10 ds < 2 ^ 32)) = parse_digits digits_model 32 ds (Err e) h digits in
    sym (guard_none _ _ (λ t.
    let some = and_parts (ltb 0 (length ds)) _ t in
    let few = and_parts (leb (length ds) 10) _ some.1 in
    let last = and_parts (list_all is_ascii_digit ds) _ few.1 in
    never (ltb-true _ _ some.0, ltb-true _ _ last.1)))
