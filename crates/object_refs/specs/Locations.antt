-- Object URLs of the scheme corbaloc: CORBA 3.0.3, section 13.6.10. That they have one address, of IIOP 1.2, and hosts
-- of 1 to 255 bytes is own profile.
use Rattle.std.specs.Prelude.{◌≡◌, ◌<◌, ◌≤◌, ◌^◌, ℕ, Bool, true, false, not, ◌&&◌, ◌||◌, ◌==◌, ◌⊎◌}
use Rattle.std.specs.Prelude.{List, [], ◌∷◌, ◌++◌, length, position, None, codes}
use Rattle.std.specs.Char.{is_ascii_digit, is_ascii_hexdigit}
use Rattle.std.specs.List.{list_all}
use Rattle.std.specs.Str.Parse.{digits_value}
use Rattle.percent_encoding.specs.Percent.{percent_sign, percent_decode}
use Rattle.object_refs.specs.Reference.{Location}

-- the scheme
abbrev pub scheme : List ℕ
scheme = codes "corbaloc:"

-- the protocol IIOP
abbrev pub iiop_protocol : List ℕ
iiop_protocol = codes "iiop:"

-- the same for short
abbrev pub short_protocol : List ℕ
short_protocol = codes ":"

-- the version of the protocol, and the sign after it
abbrev pub version_part : List ℕ
version_part = codes "1.2@"

-- the port where none is named
abbrev pub default_port : ℕ
default_port = 2809

-- the sign before a port
abbrev pub colon : ℕ
colon = 58

-- the sign before a key
abbrev pub slash : ℕ
slash = 47

-- a colon, a slash, a comma (44), an opening bracket (91) and NUL may not be in a host
abbrev pub ends_host : ℕ → Bool
ends_host byte = byte == colon || byte == slash || byte == 44 || byte == 91 || byte == 0

-- a host: 1 to 255 bytes, none of those
pub record IsHost (host : List ℕ) : Type 0 where
  pub some : 0 < length host
  pub few : length host ≤ 255
  pub plain : position ends_host host ≡ None

-- one to five decimal digits of a number from 1 to 65535
pub record IsPortNumber (digits : List ℕ) (port : ℕ) : Type 0 where
  pub few : length digits ≤ 5
  pub decimal : list_all is_ascii_digit digits ≡ true
  pub value : port ≡ digits_value 10 digits
  pub some : 0 < port
  pub small : port < 2 ^ 16

-- a colon and the port, or nothing for the default port
abbrev pub IsPort : List ℕ → ℕ → Type 0
IsPort text port =
    ((text ≡ []) × (port ≡ default_port))
    ⊎ ((digits : List ℕ) × (text ≡ colon ∷ digits) × IsPortNumber digits port)

-- two hexadecimal digits come before
abbrev pub begins_with_byte : List ℕ → Bool
begins_with_byte [] = false
begins_with_byte (high ∷ []) = false
begins_with_byte (high ∷ low ∷ rest) = is_ascii_hexdigit high && is_ascii_hexdigit low

-- two hexadecimal digits are after each percent sign
abbrev pub is_escaped : List ℕ → Bool
is_escaped [] = true
is_escaped (byte ∷ rest) = (not (byte == percent_sign) || begins_with_byte rest) && is_escaped rest

-- a text is a key with escapes
abbrev pub IsKey : List ℕ → List ℕ → Type 0
IsKey text key = (is_escaped text ≡ true) × (key ≡ percent_decode text)

-- the text is an object URL of the location
pub record IsLocation (l : Location) (text : List ℕ) : Type 0 where
  pub protocol : List ℕ
  pub port_text : List ℕ
  pub key_text : List ℕ
  pub parts : text ≡ scheme ++ (protocol ++ (version_part ++ (l.host ++ (port_text ++ slash ∷ key_text))))
  pub is_iiop : (protocol ≡ iiop_protocol) ⊎ (protocol ≡ short_protocol)
  pub host : IsHost l.host
  pub port : IsPort port_text l.port
  pub key : IsKey key_text l.key
