-- Names that are kept in an index.
use Rattle.std.specs.Prelude.{ℕ, List, [], ◌∷◌, ◌++◌, map, filter, fold, not, if◌then◌else◌, Vec}
use Rattle.std.specs.List.{list_any}
use Rattle.std.specs.Str.{bytes_eq}
use Rattle.std.specs.declared.alloc.Global.{Global}
use Rattle.cdr_values.specs.Trees.{Name, Names}
use Rattle.idl_types.specs.Things.{OperationView}

-- the bytes of each name
abbrev pub names_in : List (Vec ℕ Global) → List Name
names_in ns = map (λ n. n.items) ns

-- the names of operations
abbrev pub operation_names : List OperationView → List Name
operation_names os = map (λ o. o.name) os

-- names, each once, where it comes first
abbrev pub once : Names → Names
once [] = []
once (n ∷ ns) = n ∷ filter (λ m. not (bytes_eq m n)) (once ns)

-- a name after others, where it isn't among them
abbrev pub with_name : Names → Name → Names
with_name ns n = if list_any (bytes_eq n) ns then ns else ns ++ n ∷ []

-- names after others, each where it isn't among those before it
abbrev pub with_names : Names → Names → Names
with_names ns more = fold with_name ns more
