-- What the things of a repository declare, each by its id: CORBA 3.0.3, chapter 3, names and scoping. Names of parameters aren't
-- found from outside, so they are left out.
use Rattle.std.specs.Prelude.{ℕ, ◌+◌, nat_eq, List, [], ◌∷◌, ◌++◌, map, drop, codes, Option, Some, None, if◌then◌else◌}
use Rattle.std.specs.List.{starts_with}
use Rattle.std.specs.Str.{bytes_eq}
use Rattle.cdr_values.specs.Trees.{Name, Names, Scalar, boolean, char, unsigned, signed, enumeration, Kind, scalar, words, sequence, array, structure, union, members_of}
use Rattle.cdr_values.specs.Lawful.{member_names}
use Rattle.idl_types.specs.Apart.{case_names}
use Rattle.idl_types.specs.Names.{operation_names}
use Rattle.idl_types.specs.Things.{Thing, constant, named, exception, interface, id_of}
use Rattle.script_names.specs.declared.meaning.Meaning.{Meaning}
use Rattle.script_names.specs.declared.meaning.Meaning.TheVariants as means
use Rattle.script_names.specs.Paths.{path_of, id_in, around}

-- an id, and what it stands for
abbrev pub Pair : Type 0
Pair = Name × Meaning

-- names of a scope that stand for nothing that a script uses
abbrev pub unused : Name → Names → List Pair
unused scope names = map (λ n. (id_in scope n, means.Other)) names

-- the enumerators of the enum at a place are in the scope around it, and have the numbers from one on
abbrev pub enumerators : ℕ → Name → ℕ → Names → List Pair
enumerators place scope n [] = []
enumerators place scope n (label ∷ labels) = (id_in scope label, means.Enumerator place n) ∷ enumerators place scope (n + 1) labels

-- the path of the scope around a path; the file's is empty
abbrev pub first_or_file : Names → Name
first_or_file [] = []
first_or_file (p ∷ ps) = p

-- an attribute `a` has the operations `_get_a` and `_set_a`; its name is what is declared
abbrev pub declared_name : Name → Name
declared_name name = if starts_with nat_eq name (codes "_get_") then drop 5 name else if starts_with nat_eq name (codes "_set_") then drop 5 name else name

-- what the type of an id declares beside it: an enum its enumerators, a struct or a union its members. A name of an older type,
-- whose own id is another, declares nothing more.
abbrev pub type_parts : ℕ → Name → Kind → List Pair
type_parts place id (scalar (enumeration name labels)) = if bytes_eq name id then enumerators place (first_or_file (around (path_of id))) 0 labels else []
type_parts place id (scalar boolean) = []
type_parts place id (scalar char) = []
type_parts place id (scalar (unsigned s)) = []
type_parts place id (scalar (signed s)) = []
type_parts place id (words bound) = []
type_parts place id (sequence k bound) = []
type_parts place id (array k n) = []
type_parts place id (structure name ms) = if bytes_eq name id then unused (path_of id) (member_names ms) else []
type_parts place id (union name d cs) = if bytes_eq name id then unused (path_of id) (case_names cs) else []

-- what the thing at a place declares beside itself
abbrev pub parts_of : ℕ → Thing → List Pair
parts_of place (constant c) = []
parts_of place (named t) = type_parts place t.id t.kind
parts_of place (exception e) = unused (path_of e.id) (member_names (members_of e.members))
parts_of place (interface i) = unused (path_of i.id) (map declared_name (operation_names i.operations))

-- the modules around an id, from the inside out
abbrev pub modules_of : Name → List Pair
modules_of id = unused [] (around (path_of id))

-- the things from a place on, by their ids
abbrev pub themselves : ℕ → List Thing → List Pair
themselves place [] = []
themselves place (t ∷ ts) = (id_of t, means.Thing place) ∷ themselves (place + 1) ts

-- what the things from a place on declare beside themselves, and the modules around them
abbrev pub beside : ℕ → List Thing → List Pair
beside place [] = []
beside place (t ∷ ts) = (parts_of place t ++ modules_of (id_of t)) ++ beside (place + 1) ts

-- what an id stands for among these; the first counts
abbrev pub meaning_in : List Pair → Name → Option Meaning
meaning_in [] id = None
meaning_in (p ∷ ps) id = if bytes_eq id p.0 then Some p.1 else meaning_in ps id

-- what an id stands for in a repository of these things
abbrev pub meaning_of : List Thing → Name → Option Meaning
meaning_of ts id = meaning_in (themselves 0 ts ++ beside 0 ts) id
