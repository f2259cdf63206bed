-- Literals, bounds, lengths and constants: CORBA 3.0.3, chapter 3, constant declarations.
use Rattle.std.specs.Prelude.{ℕ, ℤ, pos, negsuc, min, not, [], ◌∷◌, ◌++◌, slice_index, Result, Ok, Err, ◌^◌}
use Rattle.grammar.specs.Language.{Placed}
use Rattle.grammar.specs.Reading.{◌>>=◌}
use Rattle.cdr_values.specs.Trees.{words}
use Rattle.idl_tokens.specs.declared.kind.Kind.{Kind}
use Rattle.idl_grammar.specs.declared.fault.IdlFault.{IdlFault}
use Rattle.idl_grammar.specs.declared.fault.IdlCause.TheVariants as cause
use Rattle.idl_scopes.specs.Table.{other}
use Rattle.idl_constants.specs.ConstValues.{Value, number, character, text, label_of}
use Rattle.idl_tokens.specs.Quotes.{unquoted}
use Rattle.idl_constants.specs.Literals.{integer_of}
use Rattle.idl_constants.specs.Fitting.{Fit, fit, fit_number}
use Rattle.idl_constants.specs.Standing.{may_be_constant}
use Rattle.idl_constants.specs.declared.misfit.Misfit.{Misfit}
use Rattle.idl_constants.specs.declared.misfit.Misfit.TheVariants.{WrongKind, OutOfRange}
use Rattle.idl_names.specs.Sizes.{leaf, sequence_of}
use Rattle.idl_names.specs.State.{constant, Valued, Built}
use Rattle.idl_names.specs.Changes.{Done, place_of, fault, unless, newest, place_at, become, counted}

-- a literal is the value, and begins it
abbrev pub literal : Value → Placed Kind → Built → Done
literal v t s = Ok (record s { value = record { value = v; at = place_of t; literal = place_of t } })

-- a number after a sign, which begins the value
abbrev pub behind_sign : ℤ → Placed Kind → Built → Done
behind_sign z t s = Ok (record s { value = record { value = number z; at = s.value.at; literal = place_of t } })

-- the number of a literal; one above 64 bits is given as 2^64, which fits no type
abbrev pub number_of : Placed Kind → ℤ
number_of t = pos (min (integer_of t.text) (2 ^ 64))

-- the value of a character literal: the byte between its quotes
abbrev pub character_of : Placed Kind → Value
character_of t = character (slice_index t.text 1)

-- the value of a text literal
abbrev pub text_of : Placed Kind → Value
text_of t = text (unquoted t.text)

-- a value that doesn't fit: of another kind it is at fault where it begins, and out of range at its literal
abbrev pub misfit_at : Misfit → Valued → IdlFault
misfit_at WrongKind v = fault cause.WrongKind v.at
misfit_at OutOfRange v = fault cause.OutOfRange v.literal

-- the newest value fits, or is at fault
abbrev pub fitting : Fit → Built → Done
fitting (Ok x) s = Ok s
fitting (Err misfit) s = Err (misfit_at misfit s.value)

-- a number that isn't negative
abbrev pub natural : ℤ → ℕ
natural z = elim z [ pos n ↦ n | negsuc n ↦ 0 ]

-- a value that fits, as a bound or a length
abbrev pub size_so : Fit → Valued → Result ℕ IdlFault
size_so (Ok x) v = Ok (natural (label_of v.value))
size_so (Err misfit) v = Err (misfit_at misfit v)

-- a bound or a length is a number from 1 to 65,536
abbrev pub size_in : Valued → Result ℕ IdlFault
size_in v = size_so (fit_number (pos 1) (pos 65536) v.value) v

-- this is the bound, or is at fault
abbrev pub bound_so : Result ℕ IdlFault → Built → Done
bound_so (Ok n) s = Ok (record s { bound = n })
bound_so (Err f) s = Err f

-- the newest value is a bound
abbrev pub bound : Built → Done
bound s = bound_so (size_in s.value) s

-- this is one more length of an array, or is at fault
abbrev pub length_so : Result ℕ IdlFault → Built → Done
length_so (Ok n) s = Ok (record s { lengths = s.lengths ++ n ∷ [] })
length_so (Err f) s = Err f

-- the newest value is one more length of an array
abbrev pub array_length : Built → Done
array_length s = length_so (size_in s.value) s

-- the bound is a string's, or a sequence's, which is 0 where it has none
abbrev pub bounded_text : Built → Done
bounded_text s = Ok (record s { type = leaf (words s.bound); bound = 0 })

-- the newest type is a sequence of what it was
abbrev pub sequenced : Built → Done
sequenced s = Ok (record s { type = sequence_of s.bound s.type; bound = 0 })

-- a constant: the newest name, of the newest type and value
abbrev pub const_type : Built → Done
const_type s = unless (not (may_be_constant s.type.kind)) cause.WrongKind s.last s

-- the newest name stands for a constant of the newest type and value
abbrev pub constant_named : Built → Done
constant_named s = Ok (become (newest s) other (constant s.type.kind s.value.value) s)

-- the value fits the type, a constant is one leaf, and the newest name stands for it
abbrev pub end_const : Built → Done
end_const s = fitting (fit s.type.kind s.value.value) s >>= counted 1 (place_at s (newest s)) >>= constant_named
