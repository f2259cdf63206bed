-- Scoped names, and what they are used for: CORBA 3.0.3, chapter 3, names and scoping.
use Rattle.std.specs.Prelude.{ℕ, ◌+◌, List, Option, Some, None, Result, Ok, Err}
use Rattle.grammar.specs.Language.{Placed}
use Rattle.grammar.specs.Reading.{◌>>=◌}
use Rattle.idl_tokens.specs.declared.kind.Kind.{Kind}
use Rattle.idl_grammar.specs.declared.fault.IdlFault.{IdlFault}
use Rattle.idl_grammar.specs.declared.fault.IdlCause.TheVariants as cause
use Rattle.idl_scopes.specs.declared.place.Place.{Place}
use Rattle.idl_scopes.specs.Table.{module_}
use Rattle.idl_scopes.specs.Finding as scopes
use Rattle.idl_constants.specs.ConstValues.{Value, choice}
use Rattle.idl_names.specs.Sizes.{Sized}
use Rattle.idl_lookup.specs.declared.seat.Seat.{Seat}
use Rattle.idl_lookup.specs.Lookup.{find_first, find_further}
use Rattle.idl_names.specs.State.{Thing, nothing, interface, type, constant, enumerator, Search, fresh, rooted, found, Built}
use Rattle.idl_names.specs.Changes.{Done, place_of, fault, refused, declare_in, enter, thing_at}

-- from where names are looked up
abbrev pub seat_of : Built → Seat
seat_of s = record { head = s.parts.head; here = s.here }

-- a part of a name: the first one, or the first after `::`, which is in the file's scope, or a further one
abbrev pub find_part : List ℕ → Built → Search → Option ℕ
find_part name s fresh = find_first s.scopes (seat_of s) s.parts.head name
find_part name s rooted = scopes.own s.scopes name 0
find_part name s (found i) = find_further s.scopes (seat_of s) s.parts.head name i

-- the name means this so far, or its part is unknown
abbrev pub part_found : Placed Kind → Built → Option ℕ → Done
part_found t s None = refused cause.Unknown (place_of t)
part_found t s (Some i) = Ok (record s { search = found i; last = place_of t })

-- one more part of a name
abbrev pub name_part : Placed Kind → Built → Done
name_part t s = part_found t s (find_part t.text s s.search)

-- the place of what the name means, and what that stands for; the next name begins anew
abbrev pub place_found : Search → ℕ
place_found fresh = 0
place_found rooted = 0
place_found (found i) = i

-- the number of the declaration that the name means
abbrev pub meant : Built → ℕ
meant s = place_found s.search

-- what that declaration stands for
abbrev pub meaning : Built → Thing
meaning s = thing_at s (meant s)

-- the next name begins anew
abbrev pub renewed : Built → Built
renewed s = record s { search = fresh }

-- the name is of the wrong kind, which is given at its last part
abbrev pub wrong : Built → Done
wrong s = refused cause.WrongKind s.last

-- the name is to be a type
abbrev pub typed : Sized → Built → Done
typed k s = Ok (record s { type = k })

-- the type that a thing is; an interface is a type that this profile hasn't got
abbrev pub type_in : Thing → Place → Result Sized IdlFault
type_in (type k) last = Ok k
type_in (interface bases os) last = Err (fault cause.NotInProfile last)
type_in thing last = Err (fault cause.WrongKind last)

-- the name is to be this type, or is at fault
abbrev pub typed_so : Result Sized IdlFault → Built → Done
typed_so (Ok k) s = typed k (renewed s)
typed_so (Err f) s = Err f

-- a name of a type
abbrev pub use_type : Thing → Built → Done
use_type thing s = typed_so (type_in thing s.last) s

-- the name is to be a value
abbrev pub valued : Value → Built → Done
valued v s = Ok (record s { search = fresh; value = record { value = v; at = s.last; literal = s.last } })

-- an enumerator as a value
abbrev pub choice_of : List ℕ → ℕ → Value
choice_of enum n = choice enum n

-- the value that a thing is
abbrev pub value_in : Thing → Place → Result Value IdlFault
value_in (constant kind v) last = Ok v
value_in (enumerator enum n) last = Ok (choice_of enum n)
value_in thing last = Err (fault cause.WrongKind last)

-- the name is to be this value, or is at fault
abbrev pub valued_so : Result Value IdlFault → Built → Done
valued_so (Ok v) s = valued v s
valued_so (Err f) s = Err f

-- a name of a constant or of an enumerator
abbrev pub use_const : Thing → Built → Done
use_const thing s = valued_so (value_in thing s.last) s

-- a module of this name in this scope opens again
abbrev pub open_module : Placed Kind → Built → Option ℕ → Done
open_module t s (Some i) = Ok (record s { here = i + 1 })
open_module t s None = declare_in s.here module_ nothing t s >>= enter

-- a module opens, anew or again
abbrev pub module_opened : Placed Kind → Built → Done
module_opened t s = open_module t s (scopes.module_in s.scopes t.text s.here)

-- the name of a oneway's result: the faults of the name itself go before, where it has one part
abbrev pub long_result_name : Built → Done
long_result_name s = refused cause.BadOneway s.last

-- a name that is a type is at fault as the result of a oneway
abbrev pub result_name : Built → Done
result_name s = use_type (meaning s) s >>= (λ s. refused cause.BadOneway s.last)
