-- What a repository keeps (own profile where no section is named).
use Rattle.std.specs.Prelude.{ℕ, ◌&&◌, ◌||◌, if◌then◌else◌, not, nat_le, take, Bool, true, List, [], ◌∷◌, ◌++◌, Option, Some, None, map, sum_by, codes}
use Rattle.std.specs.List.{list_all, list_any}
use Rattle.std.specs.Str.{bytes_eq, str_eq_ignore_ascii_case}
use Rattle.cdr_values.specs.Trees.{Name, Kind, members_of}
use Rattle.cdr_values.specs.Lawful.{differ, is_lawful, are_lawful}
use Rattle.idl_types.specs.Things.{OperationView, Thing, constant, named, exception, interface, id_of, bases_of}
use Rattle.idl_types.specs.Apart.{are_apart, is_told_apart, are_told_apart}
use Rattle.idl_types.specs.Counting.{leaves_of, leaves_of_members, levels_of, levels_of_members, thing_leaves}
use Rattle.idl_types.specs.Finding.{is_interface}

-- the leaves that a type may have, an exception too
abbrev pub most_leaves : ℕ
most_leaves = 65536

-- the levels that a type may have
abbrev pub most_levels : ℕ
most_levels = 64

-- the leaves that a file may have
abbrev pub most_file_leaves : ℕ
most_file_leaves = 1048576

-- whether a type is lawful, its names are told apart, and it is no larger than it may be
abbrev pub is_sound_type : Kind → Bool
is_sound_type k = is_lawful k && (is_told_apart k && (nat_le (leaves_of k) most_leaves && nat_le (levels_of k) most_levels))

-- whether a result is sound: `void` is
abbrev pub is_sound_result : Option Kind → Bool
is_sound_result None = true
is_sound_result (Some k) = is_sound_type k

-- whether the types of an operation are sound and its parameters told apart
abbrev pub is_sound_operation : OperationView → Bool
is_sound_operation o = is_sound_result o.result && (list_all (λ p. is_sound_type p.kind) o.params && are_apart (map (λ p. p.name) o.params))

-- whether members are lawful, told apart and no larger than they may be: an exception may have none
abbrev pub are_sound_members : List (Name × Kind) → Bool
are_sound_members ms =
    are_lawful (members_of ms) && (are_told_apart (members_of ms)
    && (nat_le (leaves_of_members (members_of ms)) most_leaves && nat_le (levels_of_members (members_of ms)) most_levels))

-- whether the types of a thing are sound, and the names in it told apart: two inherited operations may differ in case alone
abbrev pub is_sound_thing : Thing → Bool
is_sound_thing (constant c) = is_sound_type c.kind
is_sound_thing (named t) = is_sound_type t.kind
is_sound_thing (exception e) = are_sound_members e.members
is_sound_thing (interface i) = list_all is_sound_operation i.operations && differ bytes_eq (map (λ o. o.name) i.operations)

-- whether an id is in the module Orb at the file's scope, or is that module's, case aside
abbrev pub is_reserved : Name → Bool
is_reserved id = str_eq_ignore_ascii_case (take 8 id) (codes "IDL:Orb/") || str_eq_ignore_ascii_case id (codes "IDL:Orb:1.0")

-- the id of the built-in interface of `ping`
abbrev pub ping_id : Name
ping_id = codes "IDL:Orb/Ping:1.0"

-- the id of the interface of the name service
abbrev pub names_id : Name
names_id = codes "IDL:Orb/Names:1.0"

-- the id of its exception: no text is kept under the key
abbrev pub not_found_id : Name
not_found_id = codes "IDL:Orb/NotFound:1.0"

-- the id of its exception: a text is kept under the key already
abbrev pub already_bound_id : Name
already_bound_id = codes "IDL:Orb/AlreadyBound:1.0"

-- the id of its exception: as many keys are bound as may be
abbrev pub no_room_id : Name
no_room_id = codes "IDL:Orb/NoRoom:1.0"

-- the ids of all things in the module Orb
abbrev pub built_in_ids : List Name
built_in_ids = ping_id ∷ not_found_id ∷ already_bound_id ∷ no_room_id ∷ names_id ∷ []

-- whether an id is that of a built-in thing
abbrev pub is_built_in : Name → Bool
is_built_in id = list_any (λ n. bytes_eq n id) built_in_ids

-- whether a thing isn't in the module Orb, or has the id of a built-in one
abbrev pub is_own : Thing → Bool
is_own t = not (is_reserved (id_of t)) || is_built_in (id_of t)

-- whether a thing's bases are interfaces among the things before it (CORBA 3.0.3, section 3.8.5)
abbrev pub has_bases_in : List Thing → Thing → Bool
has_bases_in before t = list_all (is_interface before) (bases_of t)

-- whether each thing's bases are before it, after these things
abbrev pub are_based : List Thing → List Thing → Bool
are_based before [] = true
are_based before (t ∷ ts) = has_bases_in before t && are_based (before ++ t ∷ []) ts

-- the leaves that count for the file: those of the built-in module don't
abbrev pub counted_leaves : Thing → ℕ
counted_leaves t = if is_reserved (id_of t) then 0 else thing_leaves t

-- the file's leaves
abbrev pub file_leaves : List Thing → ℕ
file_leaves ts = sum_by counted_leaves ts
