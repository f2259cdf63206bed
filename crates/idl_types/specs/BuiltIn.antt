-- The built-in module (own profile): module Orb { interface Ping { short current(); string echo(in string text); oneway void note(); }; };
-- and in it, where names are asked for, the interface of the name service:
-- module Orb { exception NotFound { }; exception AlreadyBound { }; exception NoRoom { }; interface Names {
-- void bind(in string key, in string target) raises (AlreadyBound, NoRoom); void rebind(in string key, in string target) raises (NoRoom);
-- string resolve(in string key) raises (NotFound); void unbind(in string key) raises (NotFound); string next(in string after) raises (NotFound);
-- unsigned long size(); }; };
use Rattle.std.specs.Prelude.{true, false, List, [], ◌∷◌, ◌++◌, Option, Some, None, is_some, map, codes, if◌then◌else◌}
use Rattle.cdr_values.specs.Trees.{Name, Names, Kind, size2, size4, scalar, signed, unsigned, words}
use Rattle.idl_types.specs.declared.way.Way.TheVariants as way
use Rattle.idl_types.specs.Things.{ParamView, OperationView, Thing, exception, interface, id_of}
use Rattle.idl_types.specs.Finding.{place_named}
use Rattle.idl_types.specs.Sound.{ping_id, names_id, not_found_id, already_bound_id, no_room_id}

-- short current();
abbrev pub current : OperationView
current = record { name = codes "current"; oneway = false; result = Some (scalar (signed size2)); params = []; raises = [] }

-- in string text
abbrev pub text_param : ParamView
text_param = record { way = way.Input; name = codes "text"; kind = words 0 }

-- string echo(in string text);
abbrev pub echo : OperationView
echo = record { name = codes "echo"; oneway = false; result = Some (words 0); params = text_param ∷ []; raises = [] }

-- oneway void note();
abbrev pub note : OperationView
note = record { name = codes "note"; oneway = true; result = None; params = []; raises = [] }

-- the operations, in order
abbrev pub operations : List OperationView
operations = current ∷ echo ∷ note ∷ []

-- the interface
abbrev pub ping : Thing
ping = interface (record { id = ping_id; bases = []; operations = operations })

-- things with the built-in module, which is put after them where it isn't there
abbrev pub with_ping : List Thing → List Thing
with_ping ts = if is_some (place_named ts ping_id) then ts else ts ++ ping ∷ []

-- in string, of this name
abbrev pub string_in : Name → ParamView
string_in name = record { way = way.Input; name = name; kind = words 0 }

-- an operation of the name service: its result, its strings and what it raises
abbrev pub names_operation : Name → Option Kind → Names → Names → OperationView
names_operation name result params raises =
    record { name = name; oneway = false; result = result; params = map string_in params; raises = raises }

-- the operations of the name service, in order
abbrev pub names_operations : List OperationView
names_operations =
    names_operation (codes "bind") None (codes "key" ∷ codes "target" ∷ []) (already_bound_id ∷ no_room_id ∷ [])
    ∷ names_operation (codes "rebind") None (codes "key" ∷ codes "target" ∷ []) (no_room_id ∷ [])
    ∷ names_operation (codes "resolve") (Some (words 0)) (codes "key" ∷ []) (not_found_id ∷ [])
    ∷ names_operation (codes "unbind") None (codes "key" ∷ []) (not_found_id ∷ [])
    ∷ names_operation (codes "next") (Some (words 0)) (codes "after" ∷ []) (not_found_id ∷ [])
    ∷ names_operation (codes "size") (Some (scalar (unsigned size4))) [] []
    ∷ []

-- an exception without members
abbrev pub bare_exception : Name → Thing
bare_exception id = exception (record { id = id; members = [] })

-- the interface of the name service
abbrev pub names : Thing
names = interface (record { id = names_id; bases = []; operations = names_operations })

-- things with this one, which is put after them where its id isn't there
abbrev pub with_thing : Thing → List Thing → List Thing
with_thing t ts = if is_some (place_named ts (id_of t)) then ts else ts ++ t ∷ []

-- things with what the name service declares
abbrev pub with_names : List Thing → List Thing
with_names ts =
    with_thing names (with_thing (bare_exception no_room_id) (with_thing (bare_exception already_bound_id)
    (with_thing (bare_exception not_found_id) ts)))
