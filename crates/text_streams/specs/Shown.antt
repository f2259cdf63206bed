-- How octets are shown in a line of text: own profile.
use Rattle.std.specs.Prelude.{ℕ, ◌/◌, ◌%◌, ◌==◌, ◌&&◌, not, nat_le, true, Bool, List, [], ◌∷◌, if◌then◌else◌}
use Rattle.std.specs.List.{flat_map}
use Rattle.std.specs.Fmt.{digit_glyph}

-- printable ASCII but for the blank and the percent sign
unfoldable pub is_plain : ℕ → Bool
is_plain octet = nat_le 0x21 octet && (nat_le octet 0x7E && not (octet == 0x25))

-- a plain octet as it is, and each other one as `%` with its two upper-case hexadecimal digits
unfoldable pub shown_octet : ℕ → List ℕ
shown_octet octet =
    if is_plain octet then octet ∷ [] else 0x25 ∷ digit_glyph true (octet / 16) ∷ digit_glyph true (octet % 16) ∷ []

-- one after the other
unfoldable pub shown : List ℕ → List ℕ
shown octets = flat_map shown_octet octets
