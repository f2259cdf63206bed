-- Addresses on a command line, HOST:PORT: own profile.
use Rattle.std.specs.Prelude.{ℕ, ◌+◌, ◌==◌, ◌&&◌, nat_le, nat_lt, List, take, drop, length, position}
use Rattle.std.specs.Prelude.{Option, Some, None, option_map, is_none, if◌then◌else◌}
use Rattle.std.specs.Option.{option_and_then}
use Rattle.orb_base.specs.NulFree.{nul_at}
use Rattle.object_refs.specs.LocationReading.{port_number}

-- where objects are reached
pub record Place : Type 0 where
  pub host : List ℕ
  pub port : ℕ

-- the byte between a host and a port
abbrev pub colon : ℕ
colon = 58

-- a host of 1 to 255 bytes, none of them a NUL
unfoldable pub host_of : List ℕ → Option (List ℕ)
host_of host = if nat_lt 0 (length host) && nat_le (length host) 255 && is_none (nul_at host) then Some host else None

-- the address of a host of so many bytes, after which a colon and 1 to 10 digits of a port are
unfoldable pub address_at : List ℕ → ℕ → Option Place
address_at word len =
    option_and_then (λ port. option_map (λ host. record { host = host; port = port }) (host_of (take len word)))
    (port_number 10 (drop (len + 1) word))

-- the address that a word is: its host goes to the first colon
unfoldable pub address_of : List ℕ → Option Place
address_of word = option_and_then (address_at word) (position (λ byte. byte == colon) word)
