-- Looking up names: CORBA 3.0.3, chapter 3, names and scoping.
use Rattle.std.specs.Prelude.{ℕ, zero, suc, ◌+◌, ◌-◌, ◌==◌, ◌&&◌, Bool, true, false, List, [], ◌∷◌, length, map, position, slice_get, Option, Some, None, if◌then◌else◌}
use Rattle.std.specs.Char.{to_ascii_lowercase}
use Rattle.std.specs.Str.{bytes_eq}
use Rattle.idl_scopes.specs.declared.place.Place.{Place}
use Rattle.idl_scopes.specs.Table.{Sort, unfinished, module_, interface, operation, Declared, Table}

-- a name in lower case
abbrev pub lowered : List ℕ → List ℕ
lowered name = map to_ascii_lowercase name

-- what is at a place: after the last declaration nothing that is found
abbrev pub sort_in : Option Declared → Sort
sort_in None = unfinished
sort_in (Some d) = d.sort

-- the scope that it is declared in, and the file's where nothing is
abbrev pub scope_in : Option Declared → ℕ
scope_in None = 0
scope_in (Some d) = d.scope

-- its name, and none where nothing is
abbrev pub name_in : Option Declared → List ℕ
name_in None = []
name_in (Some d) = d.name

-- where its name is in the text
abbrev pub place_of : Option Declared → Place
place_of None = record { line = 0; column = 0 }
place_of (Some d) = d.place

-- what the declaration with this number is
abbrev pub sort_at : Table → ℕ → Sort
sort_at t i = sort_in (slice_get t.declared i)

-- the scope that it is declared in
abbrev pub scope_at : Table → ℕ → ℕ
scope_at t i = scope_in (slice_get t.declared i)

-- its name
abbrev pub name_at : Table → ℕ → List ℕ
name_at t i = name_in (slice_get t.declared i)

-- where its name is
abbrev pub place_at : Table → ℕ → Place
place_at t i = place_of (slice_get t.declared i)

-- the scope around a scope
abbrev pub outer : Table → ℕ → ℕ
outer t scope = scope_at t (scope - 1)

-- its end has been read, or it is found before
abbrev pub is_finished : Sort → Bool
is_finished unfinished = false
is_finished sort = true

-- it is a module
abbrev pub is_module : Sort → Bool
is_module module_ = true
is_module sort = false

-- it is an operation or attribute
abbrev pub is_operation : Sort → Bool
is_operation operation = true
is_operation sort = false

-- the scopes whose names it inherits
abbrev pub inherited : Sort → List ℕ
inherited (interface scopes) = scopes
inherited sort = []

-- a key is of this scope and this name in lower case
abbrev pub is_at : ℕ → List ℕ → (ℕ × List ℕ) → Bool
is_at scope name k = (scope == k.0) && bytes_eq name k.1

-- the place of the declaration of a scope that has this name, case aside
abbrev pub place_in : Table → List ℕ → ℕ → Option ℕ
place_in t name scope = position (is_at scope (lowered name)) t.keys

-- it is spelled so, and is found
abbrev pub is_spelled : List ℕ → Declared → Bool
is_spelled name d = bytes_eq d.name name && is_finished d.sort

-- something is there, spelled so and found
abbrev pub is_spelled_in : List ℕ → Option Declared → Bool
is_spelled_in name None = false
is_spelled_in name (Some d) = is_spelled name d

-- the declaration with this number, if it is spelled so and found
abbrev pub if_spelled : Table → List ℕ → Option ℕ → Option ℕ
if_spelled t name None = None
if_spelled t name (Some i) = if is_spelled_in name (slice_get t.declared i) then Some i else None

-- A name is found in its scope, by its spelling,
abbrev pub own : Table → List ℕ → ℕ → Option ℕ
own t name scope = if_spelled t name (place_in t name scope)

-- the one, and where there is none the other
abbrev pub or_else : Option ℕ → Option ℕ → Option ℕ
or_else (Some i) other = Some i
or_else None other = other

-- the first of these scopes in which the name is found tells
abbrev pub among : Table → List ℕ → List ℕ → Option ℕ
among t name [] = None
among t name (scope ∷ scopes) = or_else (own t name scope) (among t name scopes)

-- then in the bases of that interface in order,
abbrev pub above : Table → ℕ → List ℕ
above t scope = if scope == 0 then [] else inherited (sort_at t (scope - 1))

-- in a scope, and then in what it inherits
abbrev pub inside : Table → List ℕ → ℕ → Option ℕ
inside t name scope = among t name (scope ∷ above t scope)

-- then outwards, past so many scopes.
unfoldable pub outwards : ℕ → Table → List ℕ → ℕ → Option ℕ
outwards zero t name scope = inside t name scope
outwards (suc n) t name scope = or_else (inside t name scope) (if scope == 0 then None else outwards n t name (outer t scope))

-- what a name means in a scope
abbrev pub looked_up : Table → List ℕ → ℕ → Option ℕ
looked_up t name scope = outwards (length t.declared) t name scope

-- all scopes whose names a declaration gives: its own, and those that it inherits
abbrev pub scopes_of : Table → ℕ → List ℕ
scopes_of t i = (i + 1) ∷ inherited (sort_at t i)

-- the rest of a scoped name is found inside what was found; an operation has no names outside of it
abbrev pub inside_of : Table → List ℕ → ℕ → Option ℕ
inside_of t name i = if is_operation (sort_at t i) then None else among t name (scopes_of t i)

-- a module of this name
abbrev pub if_module : Table → Option ℕ → Option ℕ
if_module t None = None
if_module t (Some i) = if is_module (sort_at t i) then Some i else None

-- the module of this name in a scope
abbrev pub module_in : Table → List ℕ → ℕ → Option ℕ
module_in t name scope = if_module t (own t name scope)
