-- Where a part of a scoped name is looked up: CORBA 3.0.3, chapter 3, names and scoping.
use Rattle.std.specs.Prelude.{ℕ, ◌+◌, ◌-◌, ◌==◌, ◌&&◌, Bool, List, Option, Some, None, if◌then◌else◌}
use Rattle.std.specs.Str.{bytes_eq}
use Rattle.idl_scopes.specs.Table.{Table}
use Rattle.idl_scopes.specs.Finding as scopes
use Rattle.idl_lookup.specs.declared.head.Head.{Head}
use Rattle.idl_lookup.specs.declared.head.Head.TheVariants.{Outside, Parameters, Raises}
use Rattle.idl_lookup.specs.declared.seat.Seat.{Seat}

-- the declaration whose body is open
abbrev pub opened : Seat → ℕ
opened from = from.here - 1

-- this is the name of the operation that is read, in the scope that the operation is declared in
abbrev pub is_itself : Table → Seat → List ℕ → ℕ → Bool
is_itself t from name scope = (scope == scopes.outer t from.here) && bytes_eq (scopes.name_at t (opened from)) name

-- An operation is declared at its name: in its interface that name means the operation itself, and any other one is looked up.
abbrev pub find_around : Table → Seat → List ℕ → Option ℕ
find_around t from name =
    if is_itself t from name (scopes.outer t from.here) then Some (opened from) else scopes.looked_up t name (scopes.outer t from.here)

-- the first part of a name is looked up here; in an operation's parameters there and then in its interface, and in what it raises
-- in its interface alone
abbrev pub find_first : Table → Seat → Head → List ℕ → Option ℕ
find_first t from Outside name = scopes.looked_up t name from.here
find_first t from Parameters name = scopes.or_else (scopes.own t name from.here) (find_around t from name)
find_first t from Raises name = find_around t from name

-- in an operation, a further part: inside the operation itself nothing is found, and inside its interface the operation is
abbrev pub find_in_head : Table → Seat → List ℕ → ℕ → Option ℕ
find_in_head t from name i =
    if i == opened from then None else (if is_itself t from name (i + 1) then Some (opened from) else scopes.inside_of t name i)

-- a further part of a name is looked up inside what was found
abbrev pub find_further : Table → Seat → Head → List ℕ → ℕ → Option ℕ
find_further t from Outside name i = scopes.inside_of t name i
find_further t from Parameters name i = find_in_head t from name i
find_further t from Raises name i = find_in_head t from name i
