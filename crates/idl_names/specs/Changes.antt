-- How declarations begin and end. A fault is a cause and a place.
use Rattle.std.specs.Prelude.{ℕ, ◌+◌, ◌-◌, nat_lt, Bool, List, [], ◌∷◌, ◌++◌, length, set, slice_get, Option, Some, None, if◌then◌else◌, Result, Ok, Err}
use Rattle.grammar.specs.Language.{Placed}
use Rattle.grammar.specs.Reading.{◌>>=◌}
use Rattle.idl_tokens.specs.declared.kind.Kind.{Kind}
use Rattle.idl_grammar.specs.declared.fault.IdlFault.{IdlFault}
use Rattle.idl_grammar.specs.declared.fault.IdlCause.{IdlCause}
use Rattle.idl_grammar.specs.declared.fault.IdlCause.TheVariants as cause
use Rattle.idl_scopes.specs.declared.place.Place.{Place}
use Rattle.idl_scopes.specs.Table.{Sort, unfinished}
use Rattle.idl_scopes.specs.Finding as scopes
use Rattle.idl_scopes.specs.Taking.{is_taken}
use Rattle.idl_scopes.specs.Declaring.{added, finished}
use Rattle.idl_names.specs.Sizes.{Sized, is_large}
use Rattle.idl_names.specs.State.{Thing, nothing, no_parts, Built}

-- what is built, or the first fault
abbrev pub Done : Type 0
Done = Result Built IdlFault

-- where a token is
abbrev pub place_of : Placed Kind → Place
place_of t = record { line = t.line; column = t.column }

-- a cause at a place
abbrev pub fault : IdlCause → Place → IdlFault
fault c p = record { cause = c; line = p.line; column = p.column }

-- what is built ends with this fault
abbrev pub refused : IdlCause → Place → Done
refused c p = Err (fault c p)

-- goes on unless this is so
abbrev pub unless : Bool → IdlCause → Place → Built → Done
unless b c p s = if b then refused c p else Ok s

-- the newest declaration, and the one whose body is open
abbrev pub newest : Built → ℕ
newest s = length s.scopes.declared - 1

-- the declaration whose body is open
abbrev pub opened : Built → ℕ
opened s = s.here - 1

-- what the declaration at a place stands for, and where its name is
abbrev pub thing_in : Option Thing → Thing
thing_in None = nothing
thing_in (Some thing) = thing

-- what the declaration with this number stands for
abbrev pub thing_at : Built → ℕ → Thing
thing_at s i = thing_in (slice_get s.things i)

-- where its name is
abbrev pub place_at : Built → ℕ → Place
place_at s i = scopes.place_at s.scopes i

-- its name
abbrev pub name_at : Built → ℕ → List ℕ
name_at s i = scopes.name_at s.scopes i

-- one thing more
abbrev pub with_thing : Thing → Built → Done
with_thing thing s = Ok (record s { things = s.things ++ thing ∷ [] })

-- a name is declared in a scope, unless it is taken there
abbrev pub with_name : ℕ → Sort → Thing → Placed Kind → Built → Built
with_name scope sort thing t s = record s { scopes = added scope t.text (place_of t) sort s.scopes; things = s.things ++ thing ∷ [] }

-- a token's text is declared there, or clashes at the token
abbrev pub declare_in : ℕ → Sort → Thing → Placed Kind → Built → Done
declare_in scope sort thing t s = unless (is_taken s.scopes t.text scope) cause.Clash (place_of t) s >>= (λ s. Ok (with_name scope sort thing t s))

-- it is declared in the open scope, and isn't found before its end
abbrev pub declare : Placed Kind → Built → Done
declare t s = declare_in s.here unfinished nothing t s

-- the newest name's body opens
abbrev pub entered : Built → Built
entered s = record s { here = length s.scopes.declared }

-- so, as a step
abbrev pub enter : Built → Done
enter s = Ok (entered s)

-- a name is declared here, and its body opens
abbrev pub open_body : Placed Kind → Built → Done
open_body t s = declare t s >>= enter

-- the declaration at a place stands for this
abbrev pub set_thing : ℕ → Thing → Built → Built
set_thing i thing s = record s { things = set s.things i thing }

-- the declaration at a place becomes a thing
abbrev pub become : ℕ → Sort → Thing → Built → Built
become i sort thing s = set_thing i thing (record s { scopes = finished s.scopes i sort })

-- the body ends, and with it what it was the body of
abbrev pub leave : Built → Built
leave s = record s { here = scopes.outer s.scopes s.here; parts = no_parts }

-- the open declaration becomes this, and its body ends
abbrev pub ended : Sort → Thing → Built → Built
ended sort thing s = leave (become (opened s) sort thing s)

-- so, as a step
abbrev pub ends : Sort → Thing → Built → Done
ends sort thing s = Ok (ended sort thing s)

-- so many leaves more, at most 1,048,576 a file
abbrev pub counted : ℕ → Place → Built → Done
counted n p s = if nat_lt 1048576 (s.leaves + n) then refused cause.TooLarge p else Ok (record s { leaves = s.leaves + n })

-- a type isn't too large
abbrev pub measured : Sized → Place → Built → Done
measured k p s = unless (is_large k) cause.TooLarge p s
