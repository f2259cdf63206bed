-- Paths: names with `/` between them, the outermost first, as repository ids have them (CORBA 3.0.3, section 10.7.1).
use Rattle.std.specs.Prelude.{ℕ, ◌-◌, ◌==◌, List, [], ◌∷◌, ◌++◌, length, take, drop, map, reverse, codes, if◌then◌else◌}
use Rattle.cdr_values.specs.Trees.{Name, Names}

-- the path of an id: what is after its `IDL:` and before its `:1.0`
abbrev pub path_of : Name → Name
path_of id = take (length id - 8) (drop 4 id)

-- the path of a scope, with a `/` after it; the file's scope has none
abbrev pub front_of : Name → Name
front_of [] = []
front_of (c ∷ cs) = (c ∷ cs) ++ codes "/"

-- the id of a name in the scope of a path
abbrev pub id_in : Name → Name → Name
id_in scope name = ((codes "IDL:" ++ front_of scope) ++ name) ++ codes ":1.0"

-- what is before each `/`, the shortest first
abbrev pub fronts : Name → Names
fronts [] = []
fronts (c ∷ cs) = if c == 47 then [] ∷ map (λ p. c ∷ p) (fronts cs) else map (λ p. c ∷ p) (fronts cs)

-- the paths of the scopes around that of a path, from the inside out, without the file's
abbrev pub around : Name → Names
around path = reverse (fronts path)
