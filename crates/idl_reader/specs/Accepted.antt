-- What a repository asks of one more thing, of the things that texts declare.
use Rattle.std.specs.Prelude.{◌≡◌, ℕ, ◌+◌, ◌&&◌, nat_le, Bool, true, false, List, [], ◌∷◌, ◌++◌, map, Option, Some, None}
use Rattle.std.specs.List.{list_all}
use Rattle.std.specs.Str.{bytes_eq}
use Rattle.cdr_values.specs.Trees.{Name, Kind, members_of}
use Rattle.cdr_values.specs.Lawful.{differ, is_lawful, are_lawful}
use Rattle.idl_types.specs.Things.{OperationView, Thing, constant, named, exception, interface, id_of, operations_of}
use Rattle.idl_types.specs.Apart.{are_apart, is_told_apart, are_told_apart}
use Rattle.idl_types.specs.Counting.{leaves_of, levels_of, leaves_of_members, levels_of_members}
use Rattle.idl_types.specs.Declaring.{is_new, may_declare}
use Rattle.idl_types.specs.Inherited.{inherits_in}
use Rattle.idl_types.specs.Names.{operation_names}
use Rattle.idl_types.specs.Sound.{is_reserved, has_bases_in, counted_leaves, file_leaves, most_leaves, most_levels, most_file_leaves}
use Rattle.idl_reader.specs.Whole.{Declares}

-- so of each thing with those before it, after these things
abbrev pub Each : (List Thing → Thing → Type 0) → List Thing → List Thing → Type 0
Each P before [] = Unit {0}
Each P before (t ∷ ts) = P before t × Each P (before ++ t ∷ []) ts

-- so of all that texts declare
abbrev pub TextsGive : (List Thing → Thing → Type 0) → Type 0
TextsGive P = (text : List ℕ) (things : List Thing) → Declares text things → Each P [] things

-- no thing before it has its id, case aside, and it isn't in the built-in module
abbrev pub IsNew : List Thing → Thing → Type 0
IsNew before t = (is_new before t ≡ true) × (is_reserved (id_of t) ≡ false)

-- its bases are interfaces among those before it
abbrev pub HasEarlierBases : List Thing → Thing → Type 0
HasEarlierBases before t = has_bases_in before t ≡ true

-- so of a result, where there is one
abbrev pub is_result_so : (Kind → Bool) → Option Kind → Bool
is_result_so so None = true
is_result_so so (Some k) = so k

-- so of the result and of the parameters of an operation
abbrev pub has_types_so : (Kind → Bool) → OperationView → Bool
has_types_so so o = is_result_so so o.result && list_all (λ p. so p.kind) o.params

-- so of the type of a constant, of a named type and of the types of operations, and so of the members of an exception
abbrev pub HasTypes : (Kind → Bool) → (List (Name × Kind) → Bool) → List Thing → Thing → Type 0
HasTypes so are_so before (constant c) = so c.kind ≡ true
HasTypes so are_so before (named t) = so t.kind ≡ true
HasTypes so are_so before (exception e) = are_so e.members ≡ true
HasTypes so are_so before (interface i) = list_all (has_types_so so) i.operations ≡ true

-- no more leaves and levels than a type may have
abbrev pub is_small : ℕ → ℕ → Bool
is_small leaves levels = nat_le leaves most_leaves && nat_le levels most_levels

-- a type has no more than it may
abbrev pub is_small_kind : Kind → Bool
is_small_kind k = is_small (leaves_of k) (levels_of k)

-- and the members of an exception have no more
abbrev pub are_small_members : List (Name × Kind) → Bool
are_small_members ms = is_small (leaves_of_members (members_of ms)) (levels_of_members (members_of ms))

-- each of its types is so small
abbrev pub HasSmallTypes : List Thing → Thing → Type 0
HasSmallTypes = HasTypes is_small_kind are_small_members

-- the parameters of an operation are told apart, case aside
abbrev pub has_params_apart : OperationView → Bool
has_params_apart o = are_apart (map (λ p. p.name) o.params)

-- so of each of its operations
abbrev pub HasParamsApart : List Thing → Thing → Type 0
HasParamsApart before t = list_all has_params_apart (operations_of t) ≡ true

-- the names in each of its types are told apart, case aside
abbrev pub HasNamesApart : List Thing → Thing → Type 0
HasNamesApart = HasTypes is_told_apart (λ ms. are_told_apart (members_of ms))

-- each of its types is lawful
abbrev pub HasLawfulTypes : List Thing → Thing → Type 0
HasLawfulTypes = HasTypes is_lawful (λ ms. are_lawful (members_of ms))

-- the names of its operations differ
abbrev pub HasOperationsApart : List Thing → Thing → Type 0
HasOperationsApart before t = differ bytes_eq (operation_names (operations_of t)) ≡ true

-- its operations begin with those that it inherits from its bases, which are among those before it
abbrev pub HasInheritedFirst : List Thing → Thing → Type 0
HasInheritedFirst before t = inherits_in before t ≡ true

-- with it the file has no more leaves than it may
abbrev pub HasLeavesLeft : List Thing → Thing → Type 0
HasLeavesLeft before t = nat_le (file_leaves before + counted_leaves t) most_file_leaves ≡ true

-- a repository of those before it takes it
abbrev pub MayDeclare : List Thing → Thing → Type 0
MayDeclare before t = may_declare before t ≡ true

-- a repository of these things takes what there is, if anything
abbrev pub Takes : List Thing → Option Thing → Type 0
Takes before None = Unit {0}
Takes before (Some t) = MayDeclare before t
