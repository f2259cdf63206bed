-- Looking up scoped names, as IDL does: CORBA 3.0.3, chapter 3, names and scoping. A name is looked up in a scope, then in the bases
-- of that interface in order, then outwards; a further part of it inside what was found, and there in its bases.
use Rattle.std.specs.Prelude.{◌≡◌, Bool, true, false, List, [], ◌∷◌, Option, Some, None, Result, Ok, Err}
use Rattle.std.specs.Option.{option_map}
use Rattle.cdr_values.specs.Trees.{Name, Names}
use Rattle.servant_scripts.specs.declared.phrase.At.{At}
use Rattle.servant_scripts.specs.declared.phrase.Part.{Part}
use Rattle.servant_scripts.specs.Trees.{Scoped}
use Rattle.script_names.specs.declared.meaning.Meaning.{Meaning}
use Rattle.script_names.specs.Paths.{path_of, id_in, around}
use Rattle.script_names.specs.Meanings.{Pair}
use Rattle.script_names.specs.Known.{Known}

-- a name that is declared in the scope of a path: its id, and what that stands for
abbrev pub own : Known → Name → Name → Option Pair
own k name scope = option_map (λ m. (id_in scope name, m)) (k.meaning (id_in scope name))

-- the one, and where there is none the other
abbrev pub or_else : Option Pair → Option Pair → Option Pair
or_else (Some found) other = Some found
or_else None other = other

-- the first of the interfaces of these ids in which the name is declared tells
abbrev pub among : Known → Name → Names → Option Pair
among k name [] = None
among k name (id ∷ ids) = or_else (own k name (path_of id)) (among k name ids)

-- in the scope of a path, then in the bases of that interface in order
abbrev pub inside : Known → Name → Name → Option Pair
inside k name scope = or_else (own k name scope) (among k name (k.bases (id_in [] scope)))

-- the first of these scopes in which it is found tells
abbrev pub first_inside : Known → Name → Names → Option Pair
first_inside k name [] = None
first_inside k name (scope ∷ scopes) = or_else (inside k name scope) (first_inside k name scopes)

-- in a scope, then outwards, the file's scope last
abbrev pub looked_up : Known → Name → Name → Option Pair
looked_up k name scope = or_else (first_inside k name (scope ∷ around scope)) (own k name [])

-- the first part of a name: after `::` in the file's scope alone
abbrev pub first_part : Known → Bool → Name → Name → Option Pair
first_part k true name scope = own k name []
first_part k false name scope = looked_up k name scope

-- what a part has found, or the place of the part that is unknown
abbrev pub part_found : Part → Option Pair → Result Pair At
part_found p (Some found) = Ok found
part_found p None = Err p.at

-- then the next parts, each inside what those before it have found
abbrev pub further : Known → Result Pair At → List Part → Result Pair At
further k (Err at) ps = Err at
further k (Ok found) [] = Ok found
further k (Ok found) (p ∷ ps) = further k (part_found p (inside k p.name (path_of found.0))) ps

-- all parts; a name has at least one
abbrev pub all_parts : Known → Name → Scoped → List Part → Result Pair At
all_parts k scope name [] = Err name.at
all_parts k scope name (p ∷ ps) = further k (part_found p (first_part k name.rooted p.name scope)) ps

-- what was found stands for
abbrev pub stands_for : Result Pair At → Result Meaning At
stands_for (Ok found) = Ok found.1
stands_for (Err at) = Err at

-- What a scoped name means where it is in the interface of an id, or where its first unknown part is. An empty id is that
-- of the file's scope.
abbrev pub meant : Known → Name → Scoped → Result Meaning At
meant k interface name = stands_for (all_parts k (path_of interface) name name.parts)
