-- Which names are taken in a scope, case aside: CORBA 3.0.3, chapter 3, names and scoping.
use Rattle.std.specs.Prelude.{ℕ, ◌-◌, ◌==◌, ◌||◌, Bool, false, List, slice_get, Option, Some, None, codes, if◌then◌else◌}
use Rattle.std.specs.List.{list_any}
use Rattle.std.specs.Str.{str_eq_ignore_ascii_case}
use Rattle.idl_scopes.specs.Table.{Declared, Table}
use Rattle.idl_scopes.specs.Finding.{lowered, is_at, place_in, sort_at, is_operation, above}
use Rattle.idl_scopes.specs.Keywords.{is_keyword}

-- a name that is in its scope already
abbrev pub is_in : Table → List ℕ → ℕ → Bool
is_in t name scope = list_any (is_at scope (lowered name)) t.keys

-- a keyword, or such a name
abbrev pub is_taken_part : Table → List ℕ → ℕ → Bool
is_taken_part t name scope = is_keyword (lowered name) || is_in t name scope

-- the name of a declaration
abbrev pub is_named : List ℕ → Declared → Bool
is_named name d = str_eq_ignore_ascii_case d.name name

-- something is there, and has this name
abbrev pub is_named_in : List ℕ → Option Declared → Bool
is_named_in name None = false
is_named_in name (Some d) = is_named name d

-- the name of what the scope is the scope of; in the file's scope the name of the built-in module Orb is taken
abbrev pub is_owner : Table → List ℕ → ℕ → Bool
is_owner t name scope = if scope == 0 then str_eq_ignore_ascii_case name (codes "orb") else is_named_in name (slice_get t.declared (scope - 1))

-- the name of an operation or attribute of a scope
abbrev pub is_operation_there : Table → Option ℕ → Bool
is_operation_there t None = false
is_operation_there t (Some i) = is_operation (sort_at t i)

-- the scope has an operation or attribute of this name
abbrev pub is_operation_in : Table → List ℕ → ℕ → Bool
is_operation_in t name scope = is_operation_there t (place_in t name scope)

-- a name is taken where it is a keyword, or in its scope already, or that of what the scope is the scope of, or that of an
-- operation which the scope inherits
abbrev pub is_taken : Table → List ℕ → ℕ → Bool
is_taken t name scope = is_taken_part t name scope || (is_owner t name scope || list_any (is_operation_in t name) (above t scope))
