-- Declaring names, and ending declarations.
use Rattle.std.specs.Prelude.{◌≡◌, ℕ, Bool, true, false, List, [], ◌∷◌, ◌++◌, set, slice_get, Option, Some, None, Result, Ok, Err}
use Rattle.idl_scopes.specs.declared.place.Place.{Place}
use Rattle.idl_scopes.specs.declared.fault.DeclareFault.{DeclareFault}
use Rattle.idl_scopes.specs.declared.fault.DeclareFault.TheVariants.{Clash, NoMemory}
use Rattle.idl_scopes.specs.Table.{Sort, Declared, Table}
use Rattle.idl_scopes.specs.Finding.{lowered}

-- one more declaration
abbrev pub added : ℕ → List ℕ → Place → Sort → Table → Table
added scope name place sort t = record { keys = t.keys ++ (scope, lowered name) ∷ []; declared = t.declared ++ record { scope = scope; name = name; place = place; sort = sort } ∷ [] }

-- the declaration at a place becomes such
abbrev pub finished_in : List Declared → ℕ → Sort → Option Declared → List Declared
finished_in ds i sort None = ds
finished_in ds i sort (Some d) = set ds i (record d { sort = sort })

-- the declaration with this number becomes such, in the table
abbrev pub finished : Table → ℕ → Sort → Table
finished t i sort = record t { declared = finished_in t.declared i sort (slice_get t.declared i) }

-- a name that isn't taken is declared, a name that is taken clashes, and once out of memory nothing is said
abbrev pub Declares : Result (Unit {0}) DeclareFault → Table → Bool → Table → Type 0
Declares (Ok x) new taken with_it = (taken ≡ false) × (new ≡ with_it)
Declares (Err Clash) new taken with_it = taken ≡ true
Declares (Err NoMemory) new taken with_it = Unit {0}
