-- Where the spelling of a value ends, in numbers that stay at 2^64 - 1: CORBA 3.0.3, section 15.3.
use Rattle.std.specs.Prelude.{◌≡◌, ℕ, ◌+◌, ◌-◌, ◌^◌, List, length, Option, IfSome, min}
use Rattle.orb_base.specs.declared.order.Order.{Order}
use Rattle.cdr_core.specs.Field.{Field, fields_end}
use Rattle.cdr_core.specs.Spelling.{fields_bytes}

-- the place, or the greatest number of 64 bits
abbrev pub held : ℕ → ℕ
held place = min place (2 ^ 64 - 1)

-- from the held place before the fields to the held place after them
pub record Ends (from : ℕ) (fields : List Field) (to : ℕ) : Type 0 where
  pub at : (place : ℕ) → from ≡ held place → to ≡ held (fields_end place fields)

-- the same of the fields of a value, where it has fields
abbrev pub EndsAt : ℕ → Option (List Field) → ℕ → Type 0
EndsAt from asked to = IfSome asked (λ fields. Ends from fields to)

-- the place and the length of the value's spelling from there, where it has one, are together the place after it
abbrev pub IsBehind : ℕ → Option (List Field) → ℕ → Type 0
IsBehind place asked to = (order : Order) → IfSome asked (λ fields. to ≡ held (place + length (fields_bytes order place fields)))
