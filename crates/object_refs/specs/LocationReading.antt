-- The reading of an object URL from left to right, part by part; the first part that has no reading is at fault, at
-- its first byte: CORBA 3.0.3, section 13.6.10. The causes and their order are own profile.
use Rattle.std.specs.Prelude.{ℕ, ◌+◌, ◌-◌, ◌^◌, ◌&&◌, ◌||◌, ◌==◌, nat_lt, nat_le, if◌then◌else◌}
use Rattle.std.specs.Prelude.{List, length, take, drop, slice_index, position}
use Rattle.std.specs.Prelude.{Option, Some, None, option_and_then, Ok, Err}
use Rattle.std.specs.Char.{is_ascii_digit}
use Rattle.std.specs.List.{list_all}
use Rattle.std.specs.Str.{bytes_eq}
use Rattle.std.specs.Str.Parse.{digits_value}
use Rattle.percent_encoding.specs.Percent.{percent_decode}
use Rattle.object_refs.specs.declared.fault.RefCause.{RefCause}
use Rattle.object_refs.specs.declared.fault.RefCause.TheVariants.{NoPrefix, BadVersion, BadHost, BadPort, BadEscape}
use Rattle.object_refs.specs.Reference.{Location}
use Rattle.object_refs.specs.Locations.{scheme, iiop_protocol, short_protocol, version_part, default_port}
use Rattle.object_refs.specs.Locations.{colon, slash, ends_host, is_escaped}
use Rattle.object_refs.specs.Reading.{Read, fault}
use Rattle.cdr_core.specs.Sequence.{◌>>=◌}

-- a part of a text, or its cause at its first byte, from which `rest` goes to the end of the text
abbrev pub part : {A : Type 0} → RefCause → List ℕ → List ℕ → Option A → Read A
part cause text rest (Some x) = Ok x
part cause text rest None = Err (fault cause (length text - length rest))

-- what is after these very bytes
unfoldable pub behind : List ℕ → List ℕ → Option (List ℕ)
behind front bytes = if bytes_eq (take (length front) bytes) front then Some (drop (length front) bytes) else None

-- the one, or else the other
abbrev pub or_else : {A : Type 0} → Option A → Option A → Option A
or_else (Some x) other = Some x
or_else None other = other

-- what is after the protocol
unfoldable pub behind_protocol : List ℕ → Option (List ℕ)
behind_protocol text =
    option_and_then (λ rest. or_else (behind iiop_protocol rest) (behind short_protocol rest)) (behind scheme text)

-- a host of so many bytes, the byte that ends it, and what is after that
unfoldable pub host_of_len : List ℕ → ℕ → Option (List ℕ × ℕ × List ℕ)
host_of_len text len =
    let end = slice_index text len in
    if nat_lt 0 len && nat_le len 255 && (end == colon || end == slash)
    then Some (take len text, end, drop (len + 1) text)
    else None

-- a host, which goes to the first byte that may not be in one
unfoldable pub host_of : List ℕ → Option (List ℕ × ℕ × List ℕ)
host_of text = option_and_then (host_of_len text) (position ends_host text)

-- the port of so many decimal digits at most, which is 1 to 65535
unfoldable pub port_number : ℕ → List ℕ → Option ℕ
port_number most digits =
    let port = digits_value 10 digits in
    if nat_le (length digits) most && list_all is_ascii_digit digits && nat_lt 0 port && nat_lt port (2 ^ 16)
    then Some port
    else None

-- the port of so many digits, and what is after the byte that ends them
unfoldable pub port_of_len : List ℕ → ℕ → Option (ℕ × List ℕ)
port_of_len text len = option_and_then (λ port. Some (port, drop (len + 1) text)) (port_number 5 (take len text))

-- a port, which goes to the slash
unfoldable pub port_of : List ℕ → Option (ℕ × List ℕ)
port_of text = option_and_then (port_of_len text) (position (λ byte. byte == slash) text)

-- the port after a colon, or the default port after a slash
unfoldable pub port_at : List ℕ → ℕ → List ℕ → Read (ℕ × List ℕ)
port_at text end rest = if end == colon then part BadPort text rest (port_of rest) else Ok (default_port, rest)

-- the key with its escapes read
unfoldable pub key_of : List ℕ → Option (List ℕ)
key_of text = if is_escaped text then Some (percent_decode text) else None

-- the location of an object URL
unfoldable pub location_of : List ℕ → Read Location
location_of text = do
  version ← part NoPrefix text text (behind_protocol text)
  address ← part BadVersion text version (behind version_part version)
  host ← part BadHost text address (host_of address)
  port ← port_at text host.1 host.2
  key ← part BadEscape text port.1 (key_of port.1)
  Ok (record { host = host.0; port = port.0; key = key })
