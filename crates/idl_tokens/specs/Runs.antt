-- How far names, numbers, texts and comments go: CORBA 3.0.3, section 3.2.
use Rattle.std.specs.Prelude.{ℕ, ◌+◌, ◌==◌, ◌||◌, ◌&&◌, nat_le, Bool, List, [], ◌∷◌, Option, Some, None, length, not, position, unwrap_or, slice_get, codes, if◌then◌else◌}
use Rattle.std.specs.List.{starts_with}
use Rattle.std.specs.Char.{is_ascii_alphanumeric}

-- space, or one of tab, line feed, vertical tab, form feed and carriage return
abbrev pub is_blank : ℕ → Bool
is_blank b = b == 32 || (nat_le 9 b && nat_le b 13)

-- a letter, a digit or `_`
abbrev pub is_name_byte : ℕ → Bool
is_name_byte b = is_ascii_alphanumeric b || b == 95

-- an octal digit
abbrev pub is_octal : ℕ → Bool
is_octal b = nat_le 48 b && nat_le b 55

-- no line feed
abbrev pub is_of_line : ℕ → Bool
is_of_line b = not (b == 10)

-- a quote, or what no text holds: a line feed or a NUL
abbrev pub ends_text : ℕ → Bool
ends_text b = b == 34 || b == 10 || b == 0

-- how many bytes pass from the front on
abbrev pub run_len : (ℕ → Bool) → List ℕ → ℕ
run_len passes z = unwrap_or (position (λ b. not (passes b)) z) (length z)

-- a quote is at this place of the bytes
abbrev pub quote_at : List ℕ → Option ℕ → Option ℕ
quote_at z None = None
quote_at z (Some n) = if unwrap_or (slice_get z n) 0 == 34 then Some (n + 1) else None

-- how many bytes are after an opening quote, up to the closing one and with it, if the text is closed
unfoldable pub text_len : List ℕ → Option ℕ
text_len z = quote_at z (position ends_text z)

-- the place after the first `*/` of bytes that begin at place n, if there is one
abbrev pub comment_end : ℕ → List ℕ → Option ℕ
comment_end n [] = None
comment_end n (b ∷ z) = if starts_with (λ x y. x == y) (b ∷ z) (codes "*/") then Some (n + 2) else comment_end (n + 1) z
