-- The first fault of a stringified reference and of an object URL: each part before it has a reading, and the part there
-- has none. CORBA 3.0.3, sections 13.6.9 and 13.6.10. The causes and their order are own profile.
use Rattle.std.specs.Prelude.{◌≡◌, ◌<◌, ◌+◌, ◌-◌, ◌%◌, ℕ, false, List, ◌∷◌, ◌++◌, ◌⊎◌, length, take, map, slice_index, Ok}
use Rattle.std.specs.Char.{to_ascii_lowercase}
use Rattle.std.specs.List.{AllPass}
use Rattle.hex.specs.Hex.{decode_of, is_hex_digit}
use Rattle.object_refs.specs.declared.fault.RefFault.{RefFault}
use Rattle.object_refs.specs.declared.fault.RefCause.TheVariants.{NoPrefix, OddHex, BadHex, BadVersion, BadHost, BadPort, BadEscape}
use Rattle.object_refs.specs.Locations.{scheme, iiop_protocol, short_protocol, version_part, colon, slash, IsHost, IsPortNumber, is_escaped}
use Rattle.object_refs.specs.Reading.{fault}
use Rattle.object_refs.specs.References.{lower_prefix}
use Rattle.object_refs.specs.Refusing.{RefusesWithin, FailsReference}

-- ---- stringified references

-- the text is the prefix, its letters of either case, and these digits
pub record IsPrefixed (text digits : List ℕ) : Type 0 where
  pub prefix : List ℕ
  pub parts : text ≡ prefix ++ digits
  pub is_ior : map to_ascii_lowercase prefix ≡ lower_prefix

-- the first byte that is no hexadecimal digit is at this index
pub record HasBadDigit (digits : List ℕ) (index : ℕ) : Type 0 where
  pub within : index < length digits
  pub bad : is_hex_digit (slice_index digits index) ≡ false
  pub before : AllPass is_hex_digit (take index digits)

-- the digits of a text of this length are refused: their number is odd, one is bad, or what they encapsulate fails
abbrev pub RefusesDigits : ℕ → List ℕ → RefFault → Type 0
RefusesDigits len digits f =
    ((length digits % 2 ≡ 1) × (f ≡ fault OddHex len))
    ⊎ ((length digits % 2 ≡ 0) × (index : ℕ) × HasBadDigit digits index × (f ≡ fault BadHex (index + 4)))
    ⊎ ((bytes : List ℕ) × (decode_of digits ≡ Ok bytes) × RefusesWithin FailsReference bytes f)

-- the text of a reference is refused
abbrev pub RefusesReference : List ℕ → RefFault → Type 0
RefusesReference text f =
    (((digits : List ℕ) → ¬ IsPrefixed text digits) × (f ≡ fault NoPrefix 0))
    ⊎ ((digits : List ℕ) × IsPrefixed text digits × RefusesDigits (length text) digits f)

-- ---- object URLs

-- the text is the scheme, a protocol, and the rest
abbrev pub IsUrl : List ℕ → List ℕ → Type 0
IsUrl text rest =
    (protocol : List ℕ) × ((protocol ≡ iiop_protocol) ⊎ (protocol ≡ short_protocol))
    × (text ≡ scheme ++ (protocol ++ rest))

-- a host, the byte that ends it, and what is after that
abbrev pub Hosts : List ℕ → List ℕ × ℕ × List ℕ → Type 0
Hosts address x =
    IsHost x.0 × ((x.1 ≡ colon) ⊎ (x.1 ≡ slash)) × (address ≡ x.0 ++ x.1 ∷ x.2)

-- a port, a slash, and what is after that
abbrev pub Ports : List ℕ → ℕ × List ℕ → Type 0
Ports rest x = (digits : List ℕ) × IsPortNumber digits x.0 × (rest ≡ digits ++ slash ∷ x.1)

-- the place in a text of the first byte of what goes to its end
abbrev pub place_in : List ℕ → List ℕ → ℕ
place_in text rest = length text - length rest

-- the key after a host and its port is refused, or that port
abbrev pub RefusesBehind : List ℕ → ℕ → List ℕ → RefFault → Type 0
RefusesBehind text end rest f =
    ((end ≡ colon) × ((x : ℕ × List ℕ) → ¬ Ports rest x) × (f ≡ fault BadPort (place_in text rest)))
    ⊎ ((end ≡ colon) × (x : ℕ × List ℕ) × Ports rest x × (is_escaped x.1 ≡ false) × (f ≡ fault BadEscape (place_in text x.1)))
    ⊎ ((end ≡ slash) × (is_escaped rest ≡ false) × (f ≡ fault BadEscape (place_in text rest)))

-- an address is refused: its host, or what is after that
abbrev pub RefusesAddress : List ℕ → List ℕ → RefFault → Type 0
RefusesAddress text address f =
    (((x : List ℕ × ℕ × List ℕ) → ¬ Hosts address x) × (f ≡ fault BadHost (place_in text address)))
    ⊎ ((x : List ℕ × ℕ × List ℕ) × Hosts address x × RefusesBehind text x.1 x.2 f)

-- what is after the protocol is refused: the version, or the address
abbrev pub RefusesVersioned : List ℕ → List ℕ → RefFault → Type 0
RefusesVersioned text rest f =
    (((address : List ℕ) → ¬ (rest ≡ version_part ++ address)) × (f ≡ fault BadVersion (place_in text rest)))
    ⊎ ((address : List ℕ) × (rest ≡ version_part ++ address) × RefusesAddress text address f)

-- an object URL is refused
abbrev pub RefusesLocation : List ℕ → RefFault → Type 0
RefusesLocation text f =
    (((rest : List ℕ) → ¬ IsUrl text rest) × (f ≡ fault NoPrefix 0))
    ⊎ ((rest : List ℕ) × IsUrl text rest × RefusesVersioned text rest f)
