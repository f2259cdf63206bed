-- Linear maps: Real-time CORBA 1.2, Priority mappings. The formula is this project's own.
use Rattle.std.specs.Prelude.{ℕ, ℤ, ◌+◌, ◌-◌, ◌*◌, ◌/◌, pos, unsigned_abs, ◌+ℤ◌, ◌-ℤ◌, nat_le, ◌&&◌, Option, Some, None, if◌then◌else◌}

-- a band of CORBA priorities and a range of native ones, both ends of each included
pub record LinearMap : Type 0 where
  pub low : ℕ
  pub high : ℕ
  pub native_low : ℤ
  pub native_high : ℤ

-- how many native priorities there are
abbrev pub natives : LinearMap → ℕ
natives m = unsigned_abs (m.native_high -ℤ m.native_low) + 1

-- how many CORBA priorities there are
abbrev pub corbas : LinearMap → ℕ
corbas m = (m.high - m.low) + 1

-- the place among the natives that a place among the CORBA priorities has: in proportion, rounded down
abbrev pub share : ℕ → ℕ → ℕ → ℕ
share natives corbas k = k * natives / corbas

-- the native priority of a CORBA one; outside the band there is none
abbrev pub linear_native : LinearMap → ℕ → Option ℤ
linear_native m p =
    if nat_le m.low p && nat_le p m.high then Some (m.native_low +ℤ pos (share (natives m) (corbas m) (p - m.low))) else None

-- the map of all CORBA priorities onto the same numbers
abbrev pub identity : LinearMap
identity = record { low = 0; high = 32767; native_low = pos 0; native_high = pos 32767 }
