-- Where the fields of a message end, in numbers that stand still at 2^64 - 1.
use Rattle.std.specs.Prelude.{◌≡◌, ℕ, ◌-◌, ◌^◌, List, length, min}
use Rattle.orb_base.specs.Tagged.{Context}
use Rattle.cdr_core.specs.Field.{Field, fields_end}

-- the place, or the greatest number of 64 bits
abbrev pub held : ℕ → ℕ
held place = min place (2 ^ 64 - 1)

-- from the held place before the fields to the held place after them
abbrev pub Ends : ℕ → List Field → ℕ → Type 0
Ends from fields to = (place : ℕ) → from ≡ held place → to ≡ held (fields_end place fields)

-- how many octets the data of a context have
abbrev pub data_len : Context → ℕ
data_len context = length context.bytes
