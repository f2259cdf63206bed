-- Interfaces, operations and attributes: CORBA 3.0.3, chapter 3, interface declarations.
use Rattle.std.specs.Prelude.{ℕ, ◌-◌, ◌&&◌, Bool, true, false, not, List, [], ◌∷◌, ◌++◌, set, slice_get, codes, Some, None, Ok}
use Rattle.grammar.specs.Language.{Placed}
use Rattle.grammar.specs.Reading.{◌>>=◌}
use Rattle.cdr_values.specs.Trees as trees
use Rattle.idl_tokens.specs.declared.kind.Kind.{Kind}
use Rattle.idl_grammar.specs.declared.fault.IdlCause.TheVariants as cause
use Rattle.idl_scopes.specs.Table as table
use Rattle.idl_scopes.specs.Finding.{outer, scopes_of}
use Rattle.idl_scopes.specs.Taking.{is_taken_part}
use Rattle.idl_scopes.specs.Bases.{bases_clash}
use Rattle.idl_scopes.specs.Ids.{id_of}
use Rattle.idl_types.specs.declared.way.Way.{Way}
use Rattle.idl_types.specs.declared.way.Way.TheVariants.{Input, Output, Both}
use Rattle.idl_types.specs.Things.{OperationView}
use Rattle.idl_lookup.specs.declared.head.Head.TheVariants.{Parameters, Raises}
use Rattle.idl_names.specs.Sizes.{Sized, plus, times}
use Rattle.idl_names.specs.Each.{and_each}
use Rattle.idl_names.specs.State.{Thing, nothing, interface, exception, operations, Parts, no_parts, Built}
use Rattle.idl_names.specs.Changes.{Done, place_of, unless, newest, opened, thing_in, thing_at, place_at, name_at, with_name, declare_in, enter, become, ends, counted}
use Rattle.idl_names.specs.ScopedNames.{meant, renewed}
use Rattle.idl_names.specs.Bodies.{with_part}

-- a thing is an interface
abbrev pub is_interface : Thing → Bool
is_interface (interface bases os) = true
is_interface thing = false

-- one more base, which gives these scopes
abbrev pub and_base : ℕ → List ℕ → Parts → Parts
and_base base scopes p = record p { bases = p.bases ++ base ∷ []; given = and_each p.given scopes }

-- the name is one more base
abbrev pub with_base : Built → Done
with_base s = Ok (renewed (record s { parts = and_base (meant s) (scopes_of s.scopes (meant s)) s.parts }))

-- the name gives another thing of a name than the bases before it
abbrev pub base_clashes : Built → Bool
base_clashes s = bases_clash s.scopes s.parts.given (scopes_of s.scopes (meant s))

-- the name is a base: an interface, unless it clashes so
abbrev pub base_named : Thing → Built → Done
base_named thing s = unless (not (is_interface thing)) cause.WrongKind s.last s >>= (λ s. unless (base_clashes s) cause.Clash s.last s) >>= with_base

-- the operations that bases give, each once
abbrev pub operations_in : Thing → List ℕ
operations_in (interface bases os) = os
operations_in thing = []

-- those that so many bases add to others
abbrev pub operations_from : List Thing → List ℕ → List ℕ → List ℕ
operations_from things so_far [] = so_far
operations_from things so_far (base ∷ bases) = operations_from things (and_each so_far (operations_in (thing_in (slice_get things base)))) bases

-- those of all bases so far
abbrev pub inherited : Built → List ℕ
inherited s = operations_from s.things [] s.parts.bases

-- inherited operations are counted at the interface's name
abbrev pub operation_leaves : Thing → ℕ
operation_leaves (operations os n) = n
operation_leaves thing = 0

-- those of several, and so many before them, counted no further than the most that a file may have
abbrev pub leaves_from : List Thing → ℕ → List ℕ → ℕ
leaves_from things total [] = total
leaves_from things total (i ∷ is) = leaves_from things (plus total (operation_leaves (thing_in (slice_get things i)))) is

-- they are counted with the file's leaves
abbrev pub inherit : Built → Done
inherit s = counted (leaves_from s.things 0 (inherited s)) (place_at s (newest s)) s

-- the interface is known with its bases, and its body opens
abbrev pub open_interface : Built → Done
open_interface s = enter (record (become (newest s) (table.interface s.parts.given) (interface s.parts.bases (inherited s)) s) { parts = no_parts })

-- the interface whose scope this is has this operation too
abbrev pub and_operation : ℕ → Thing → Thing
and_operation i (interface bases os) = interface bases (os ++ i ∷ [])
and_operation i thing = thing

-- the interface of this scope has one operation more
abbrev pub with_operation : ℕ → ℕ → Built → Built
with_operation scope i s = record s { things = set s.things (scope - 1) (and_operation i (thing_at s (scope - 1))) }

-- the result, and the parameters
abbrev pub result : Built → Done
result s = Ok (record s { parts = with_part s.type (record s.parts { result = Some s.type.kind }) })

-- the way of a parameter that only goes in
abbrev pub is_input : Way → Bool
is_input Input = true
is_input Output = false
is_input Both = false

-- the way of the next parameter; a oneway has only those that go in
abbrev pub goes : Way → Placed Kind → Built → Done
goes way t s = unless (s.parts.oneway && not (is_input way)) cause.BadOneway (place_of t) s >>= (λ s. Ok (record s { parts = record s.parts { way = way; head = Parameters } }))

-- one more parameter, in the way that was read
abbrev pub with_param : List ℕ → Sized → Parts → Parts
with_param name k p = with_part k (record p { params = p.params ++ record { way = p.way; name = name; kind = k.kind } ∷ [] })

-- this name is declared in the operation, unless it is taken there
abbrev pub declare_param : Placed Kind → Built → Done
declare_param t s = unless (is_taken_part s.scopes t.text s.here) cause.Clash (place_of t) s >>= (λ s. Ok (with_name s.here table.other nothing t s))

-- this name and the newest type are one more parameter
abbrev pub param_named : Placed Kind → Built → Done
param_named t s = Ok (record s { parts = with_param t.text s.type s.parts })

-- the newest type and this name are a parameter, unless the name is taken in the operation
abbrev pub param : Placed Kind → Built → Done
param t s = declare_param t s >>= param_named t

-- a thing is an exception
abbrev pub is_exception : Thing → Bool
is_exception (exception members) = true
is_exception thing = false

-- the name is one more exception that the operation raises
abbrev pub with_raised : Built → Done
with_raised s = Ok (renewed (record s { parts = record s.parts { raises = s.parts.raises ++ id_of s.scopes (meant s) ∷ [] } }))

-- an exception that the operation raises
abbrev pub raised : Thing → Built → Done
raised thing s = unless (not (is_exception thing)) cause.WrongKind s.last s >>= with_raised

-- what is raised is read next, of which a oneway has nothing
abbrev pub raises : Placed Kind → Built → Done
raises t s = unless s.parts.oneway cause.BadOneway (place_of t) s >>= (λ s. Ok (record s { parts = record s.parts { head = Raises } }))

-- an operation of this name, with the parts that were read
abbrev pub operation_of : List ℕ → Parts → OperationView
operation_of name p = record { name = name; oneway = p.oneway; result = p.result; params = p.params; raises = p.raises }

-- the operation that was read
abbrev pub operation_read : Built → Thing
operation_read s = operations (operation_of (name_at s (opened s)) s.parts ∷ []) (plus s.parts.leaves 1)

-- its interface has it, and its scope ends
abbrev pub operation_ended : Built → Done
operation_ended s = ends table.operation (operation_read s) (with_operation (outer s.scopes s.here) (opened s) s)

-- an operation is counted with its result and its parameters, at its name
abbrev pub end_operation : Built → Done
end_operation s = counted (plus s.parts.leaves 1) (place_at s (opened s)) s >>= operation_ended

-- an attribute is an operation that gives it, and unless it is readonly one that takes it
abbrev pub getter : List ℕ → trees.Kind → OperationView
getter name kind = record { name = codes "_get_" ++ name; oneway = false; result = Some kind; params = []; raises = [] }

-- the operation that takes an attribute
abbrev pub setter : List ℕ → trees.Kind → OperationView
setter name kind = record { name = codes "_set_" ++ name; oneway = false; result = None; params = record { way = Input; name = name; kind = kind } ∷ []; raises = [] }

-- the operations of an attribute, and their leaves
abbrev pub attribute_of : Bool → List ℕ → Sized → Thing
attribute_of true name k = operations (getter name k.kind ∷ []) (plus k.leaves 1)
attribute_of false name k = operations (getter name k.kind ∷ setter name k.kind ∷ []) (times 2 (plus k.leaves 1))

-- the newest name is an attribute, whose leaves are counted
abbrev pub attribute_counted : Placed Kind → Built → Done
attribute_counted t s = counted (operation_leaves (thing_at s (newest s))) (place_of t) s

-- its interface has it
abbrev pub attribute_held : Built → Done
attribute_held s = Ok (with_operation s.here (newest s) s)

-- this name is an attribute of the newest type: it is declared and counted, and its interface has it
abbrev pub attribute : Placed Kind → Built → Done
attribute t s = declare_in s.here table.operation (attribute_of s.parts.readonly t.text s.type) t s >>= attribute_counted t >>= attribute_held
