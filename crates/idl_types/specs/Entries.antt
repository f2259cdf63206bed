-- A repository's entries as plain data.
use Rattle.std.specs.Prelude.{◌≡◌, ℕ, List, [], ◌∷◌, ◌++◌, map, Vec, Result, Ok, Err}
use Rattle.std.specs.declared.alloc.Global.{Global}
use Rattle.std.specs.Str.{str_to_ascii_lowercase}
use Rattle.orb_base.specs.declared.no_memory.NoMemory.{NoMemory}
use Rattle.cdr_values.specs.Trees.{Name}
use Rattle.idl_types.specs.declared.held.Held.{Held}
use Rattle.idl_types.specs.Things.{Thing, id_of}
use Rattle.idl_types.specs.Views.{thing_of}
use Rattle.idl_types.specs.Names.{names_in}

-- a thing by its key
abbrev pub Entry : Type 0
Entry = Vec ℕ Global × Held

-- the thing of an entry
abbrev pub entry_thing : Entry → Thing
entry_thing e = thing_of e.1.declaration

-- the things, in order
abbrev pub entry_things : List Entry → List Thing
entry_things es = map entry_thing es

-- the bytes of each key, in order
abbrev pub entry_keys : List Entry → List Name
entry_keys es = map (λ e. e.0.items) es

-- each key is the id of its thing
abbrev pub AreKeyed : List Entry → Type 0
AreKeyed es = entry_keys es ≡ map id_of (entry_things es)

-- the names are the ids in lower case, in order
abbrev pub AreFolded : List (Vec ℕ Global) → List Entry → Type 0
AreFolded ns es = names_in ns ≡ map (λ e. str_to_ascii_lowercase (id_of (entry_thing e))) es

-- an entry was put after the others, or nothing changed
abbrev pub InsertsBehind : Result (Unit {0}) NoMemory → List Entry → Entry → List Entry → Type 0
InsertsBehind (Ok u) es e new = new ≡ es ++ e ∷ []
InsertsBehind (Err x) es e new = new ≡ es

-- a name was put after the others, or nothing changed
abbrev pub PutsBehind : Result (Unit {0}) NoMemory → List Name → Name → List Name → Type 0
PutsBehind (Ok u) ns n new = new ≡ ns ++ n ∷ []
PutsBehind (Err x) ns n new = new ≡ ns

-- a number was set, or nothing changed
abbrev pub SetsLeft : Result (Unit {0}) NoMemory → ℕ → ℕ → ℕ → Type 0
SetsLeft (Ok u) old n new = new ≡ n
SetsLeft (Err x) old n new = new ≡ old
