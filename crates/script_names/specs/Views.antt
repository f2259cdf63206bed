-- What the indexes of the program stand for.
use Rattle.std.specs.Prelude.{ℕ, List, [], ◌∷◌, ◌++◌, map, fold, Vec, Option, Some, None, if◌then◌else◌}
use Rattle.std.specs.List.{list_any, flat_map}
use Rattle.std.specs.Str.{bytes_eq}
use Rattle.idl_types.specs.Names.{names_in, once}
use Rattle.idl_types.specs.Things.{Thing, constant, named, exception, interface}
use Rattle.std.specs.declared.alloc.Global.{Global}
use Rattle.cdr_values.specs.Trees.{Name, Names}
use Rattle.script_names.specs.declared.meaning.Meaning.{Meaning}
use Rattle.script_names.specs.declared.bases.Bases.{Bases}
use Rattle.script_names.specs.declared.found.Found.{Found}
use Rattle.script_names.specs.Meanings.{Pair, meaning_in}

-- an entry without where its key lies in memory
abbrev pub pair_of : Vec ℕ Global × Meaning → Pair
pair_of e = (e.0.items, e.1)

-- all entries, in order
abbrev pub pairs_of : List (Vec ℕ Global × Meaning) → List Pair
pairs_of es = map pair_of es

-- one more pair, where no pair has its id
abbrev pub with_pair : List Pair → Pair → List Pair
with_pair ps p = if list_any (λ q. bytes_eq p.0 q.0) ps then ps else ps ++ p ∷ []

-- more pairs, one by one
abbrev pub with_pairs : List Pair → List Pair → List Pair
with_pairs ps more = fold with_pair ps more

-- the ids that are listed for an id
abbrev pub listed : List (Vec ℕ Global × Bases) → Name → Names
listed [] id = []
listed (e ∷ es) id = if bytes_eq id e.0.items then names_in e.1.ids.keys else listed es id

-- the lists of ids with one thing more: an interface has its bases in order, and after each of them what that one has
abbrev pub with_thing : (Name → Names) → Thing → Name → Names
with_thing known (constant c) id = known id
with_thing known (named t) id = known id
with_thing known (exception e) id = known id
with_thing known (interface i) id = if bytes_eq id i.id then once (flat_map (λ b. b ∷ known b) i.bases) else known id

-- what was found: its id, and what that stands for
abbrev pub found_of : Found → Pair
found_of f = (f.id.items, f.meaning)
