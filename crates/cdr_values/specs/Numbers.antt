-- A number as the field that spells it.
use Rattle.std.specs.Int.{w8, w16, w32, w64}
use Rattle.cdr_core.specs.Field.{Field, number}
use Rattle.cdr_values.specs.declared.spelled.Number.{Number}
use Rattle.cdr_values.specs.declared.spelled.Number.TheVariants.{One, Two, Four, Eight}

-- a number of its width
abbrev pub field_of : Number → Field
field_of (One n) = number w8 n
field_of (Two n) = number w16 n
field_of (Four n) = number w32 n
field_of (Eight n) = number w64 n
