-- What the escape of the standard library's kin writes is what is shown.
use Rattle.std.proofs.Common.{◌≡◌, ℕ, suc, ◌/◌, ◌%◌, ◌<◌, ◌≤◌, Bool, true, false, not, cond, List, [], ◌∷◌, refl, arith, ⊎_elim}
use Rattle.std.specs.Fmt.{digit_glyph}
use Rattle.std.proofs.lemmas.Bool.{agree_below, agree_below_at, cases_lt}
use Rattle.std.proofs.lemmas.Bool.Decides.{nat_tests}
use Rattle.cdr_core.specs.Cursor.{AreBytes}
use Rattle.percent_encoding.specs.AsciiSet.{should_percent_encode}
use Rattle.percent_encoding.specs.Percent.{percent_encode, percent_encode_byte, encode_byte}
use Rattle.text_streams.specs.declared.escapes.TheConstants.{HIDDEN}
use Rattle.text_streams.specs.Shown.{is_plain, shown_octet, shown}

-- each ASCII octet is escaped where it isn't plain
tests_agree : agree_below (λ b. should_percent_encode HIDDEN b) (λ b. not (is_plain b)) 128 ≡ true
unfolding should_percent_encode is_plain
tests_agree = refl

-- an octet that isn't ASCII is not plain, and is escaped
beyond_ascii : (b : ℕ) → 128 ≤ b → should_percent_encode HIDDEN b ≡ not (is_plain b)
unfolding should_percent_encode is_plain
beyond_ascii b h = grind (arith, nat_tests)

tests_same : (b : ℕ) → should_percent_encode HIDDEN b ≡ not (is_plain b)
tests_same b = ⊎_elim (λ h. agree_below_at (λ x. should_percent_encode HIDDEN x) (λ x. not (is_plain x)) 128 b tests_agree h) (λ h. beyond_ascii b h) (cases_lt b 128)

-- the digits of an octet
digits_same : (b : ℕ) → b < 256 → percent_encode_byte b ≡ 37 ∷ digit_glyph true (b / 16) ∷ digit_glyph true (b % 16) ∷ []
unfolding percent_encode_byte
digits_same b h = let e : b / 16 % 16 ≡ b / 16 = omega arith in rw e

cond_not : {A : Type 0} (b : Bool) (x y : A) → cond (not b) x y ≡ cond b y x
cond_not true x y = refl
cond_not false x y = refl

octet_same : (b : ℕ) → b < 256 → encode_byte HIDDEN b ≡ shown_octet b
unfolding shown_octet
octet_same b h = rw (tests_same b, digits_same b h, cond_not (is_plain b) (37 ∷ digit_glyph true (b / 16) ∷ digit_glyph true (b % 16) ∷ []) (b ∷ []))

pub shown_same : (bytes : List ℕ) → AreBytes bytes → percent_encode HIDDEN bytes ≡ shown bytes
unfolding percent_encode shown
shown_same [] h = refl
shown_same (b ∷ bs) h = let e = octet_same b (h 0) in let es = shown_same bs (λ i. h (suc i)) in cc
