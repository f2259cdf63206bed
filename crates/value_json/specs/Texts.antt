-- Texts whose characters have the codes of bytes: own profile.
use Rattle.std.specs.Prelude.{ℕ, nat_lt, Bool, List, if◌then◌else◌, Option, Some, None, option_and_then, encode_utf8_all}
use Rattle.std.specs.List.{list_all}
use Rattle.std.specs.Str.{chars}
use Rattle.serde_json.specs.Data.{Data}
use Rattle.serde_json.specs.Data as json
use Rattle.serde_json.specs.Find.{as_str}

-- whether a character is that of a byte code
abbrev pub is_byte : ℕ → Bool
is_byte c = nat_lt c 256

-- whether all of them are
abbrev pub are_bytes : List ℕ → Bool
are_bytes cs = list_all is_byte cs

-- what passes a test
abbrev pub where_so : {A : Type 0} → (A → Bool) → A → Option A
where_so test x = if test x then Some x else None

-- the codes of a string's characters, where they are codes of bytes
abbrev pub codes_in : Data → Option (List ℕ)
codes_in d = option_and_then (λ s. where_so are_bytes (chars s)) (as_str d)

-- the text whose characters have these byte codes
abbrev pub text_of : List ℕ → List ℕ
text_of bytes = encode_utf8_all bytes

-- that text as JSON
abbrev pub text_data : List ℕ → Data
text_data bytes = json.string (text_of bytes)
