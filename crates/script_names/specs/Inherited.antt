-- The bases of interfaces, and their bases: CORBA 3.0.3, section 3.8.5.
use Rattle.std.specs.Prelude.{List, [], ◌∷◌, reverse, if◌then◌else◌}
use Rattle.std.specs.List.{flat_map}
use Rattle.std.specs.Str.{bytes_eq}
use Rattle.cdr_values.specs.Trees.{Name, Names}
use Rattle.idl_types.specs.Names.{once}
use Rattle.idl_types.specs.Things.{Thing, constant, named, exception, interface}

-- What the interface of an id inherits, where the things are the newest first: its bases in order, and after each of them what
-- that one inherits. A base is declared before the interface, so it is after it here.
abbrev pub inherited : List Thing → Name → Names
inherited [] id = []
inherited (constant c ∷ older) id = inherited older id
inherited (named t ∷ older) id = inherited older id
inherited (exception e ∷ older) id = inherited older id
inherited (interface i ∷ older) id = if bytes_eq id i.id then flat_map (λ b. b ∷ inherited older b) i.bases else inherited older id

-- all bases of the interface of an id, in the order of looking up, each once
abbrev pub bases_of : List Thing → Name → Names
bases_of ts id = once (inherited (reverse ts) id)
