-- What the names of a text declare, in order of declaration: CORBA 3.0.3, chapter 3.
use Rattle.std.specs.Prelude.{ℕ, ◌+◌, List, [], ◌∷◌, ◌++◌, map, slice_get, Option, Some, None}
use Rattle.cdr_values.specs.Trees.{Names}
use Rattle.idl_scopes.specs.Table.{Table}
use Rattle.idl_scopes.specs.Ids.{id_of}
use Rattle.idl_types.specs.Things as things
use Rattle.idl_names.specs.State as names
use Rattle.idl_names.specs.Changes.{thing_in}
use Rattle.idl_reader.specs.Values.{constant_value}

-- the ids of the declarations at these places
abbrev pub ids_at : Table → List ℕ → Names
ids_at table places = map (id_of table) places

-- the operations that a name stands for: those of an attribute, an operation itself, or none
abbrev pub operations_of : names.Thing → List things.OperationView
operations_of (names.operations os leaves) = os
operations_of thing = []

-- those of the names at these places, one after the other
abbrev pub operations_at : List names.Thing → List ℕ → List things.OperationView
operations_at all [] = []
operations_at all (place ∷ places) = operations_of (thing_in (slice_get all place)) ++ operations_at all places

-- What the name at a place declares: a type, an exception, a constant, or an interface with all its operations, the inherited
-- ones first. A module, an enumerator, an operation, an attribute, a member and a parameter declare nothing by themselves.
abbrev pub declared_at : Table → List names.Thing → ℕ → names.Thing → Option things.Thing
declared_at table all i (names.type k) = Some (things.named (record { id = id_of table i; kind = k.kind }))
declared_at table all i (names.exception members) = Some (things.exception (record { id = id_of table i; members = members }))
declared_at table all i (names.constant kind value) =
    Some (things.constant (record { id = id_of table i; kind = kind; value = constant_value value }))
declared_at table all i (names.interface bases os) =
    Some (things.interface (record { id = id_of table i; bases = ids_at table bases; operations = operations_at all os }))
declared_at table all i thing = None

-- one thing or none, as a list
abbrev pub listed : Option things.Thing → List things.Thing
listed None = []
listed (Some t) = t ∷ []

-- what the names from a place on declare
abbrev pub declared_from : Table → List names.Thing → ℕ → List names.Thing → List things.Thing
declared_from table all i [] = []
declared_from table all i (thing ∷ rest) = listed (declared_at table all i thing) ++ declared_from table all (i + 1) rest

-- what all names declare
abbrev pub declared : names.Built → List things.Thing
declared s = declared_from s.scopes s.things 0 s.things
