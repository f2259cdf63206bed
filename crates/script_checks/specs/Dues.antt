-- References to the types that are due (own profile). A reference counts to 2^32 - 1, and a repository is far smaller: where a
-- count were greater, that number would be in its place.
use Rattle.std.specs.Prelude.{ℕ, ◌+◌, min}
use Rattle.idl_types.specs.declared.type_ref.Part.TheVariants as part_of_thing
use Rattle.idl_types.specs.declared.type_ref.TypeRef.{TypeRef}

-- a count as references have it
abbrev pub short : ℕ → ℕ
short n = min n 4294967295

-- the type of a member of the struct or the exception at a place
abbrev pub member_due : ℕ → ℕ → TypeRef
member_due place n = record { place = short place; part = part_of_thing.Member (short n); steps = 0 }

-- the type of the elements of a list type
abbrev pub element_due : TypeRef → TypeRef
element_due due = record { place = due.place; part = due.part; steps = short (due.steps + 1) }

-- the type of the result of an operation of the interface at a place
abbrev pub result_due : ℕ → ℕ → TypeRef
result_due place o = record { place = short place; part = part_of_thing.Outcome (short o); steps = 0 }

-- the type of one of its parameters
abbrev pub param_due : ℕ → ℕ → ℕ → TypeRef
param_due place o n = record { place = short place; part = part_of_thing.Parameter (short o) (short n); steps = 0 }
