-- What an interface inherits: CORBA 3.0.3, section 3.8.5.
use Rattle.std.specs.Prelude.{◌++◌, ◌∷◌, [], Bool, List}
use Rattle.std.specs.List.{starts_with}
use Rattle.std.specs.Option.{option_map_or}
use Rattle.std.specs.Str.{bytes_eq}
use Rattle.cdr_values.specs.Trees.{Name, Names}
use Rattle.idl_types.specs.Things.{OperationView, Thing, bases_of, operations_of}
use Rattle.idl_types.specs.Finding.{interface_named}
use Rattle.idl_types.specs.Names.{operation_names, once}

-- the operations of the interface of an id; none where there is no such interface
abbrev pub operations_named : List Thing → Name → List OperationView
operations_named ts id = option_map_or (λ i. i.operations) (interface_named ts id) []

-- the names of the operations that interfaces have, one interface after the other
abbrev pub given_names : List Thing → Names → Names
given_names ts [] = []
given_names ts (id ∷ ids) = operation_names (operations_named ts id) ++ given_names ts ids

-- the names of the operations that are inherited from bases, base by base: each once, where it comes first
abbrev pub inherited_names : List Thing → Names → Names
inherited_names ts bases = once (given_names ts (once bases))

-- whether a thing's operations begin with those that it inherits, in this order
abbrev pub inherits_in : List Thing → Thing → Bool
inherits_in ts t = starts_with bytes_eq (operation_names (operations_of t)) (inherited_names ts (bases_of t))
