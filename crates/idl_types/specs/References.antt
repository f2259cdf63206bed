-- References to types inside a repository, in place of copies (own profile).
use Rattle.std.specs.Prelude.{ℕ, zero, suc, List, Option, Some, None, slice_get}
use Rattle.std.specs.Option.{option_map, option_and_then}
use Rattle.cdr_values.specs.Trees.{Kind, sequence, array, structure, Members, no_members, member}
use Rattle.idl_types.specs.declared.type_ref.Part.{Part}
use Rattle.idl_types.specs.declared.type_ref.Part.TheVariants.{Whole, Member, Outcome, Parameter}
use Rattle.idl_types.specs.declared.type_ref.TypeRef.{TypeRef}
use Rattle.idl_types.specs.Things.{Thing, constant, named, exception, interface}

-- the type of the member at an index
abbrev pub member_kind : ℕ → Members → Option Kind
member_kind i no_members = None
member_kind zero (member name k ms) = Some k
member_kind (suc i) (member name k ms) = member_kind i ms

-- the members of a struct
abbrev pub members_in : Kind → Members
members_in (structure name ms) = ms
members_in k = no_members

-- the type of a part of a thing: the type of a constant or of a name, a member of a struct or an exception, or the result or a
-- parameter of an operation of an interface
abbrev pub part_kind : Part → Thing → Option Kind
part_kind Whole (constant c) = Some c.kind
part_kind Whole (named t) = Some t.kind
part_kind (Member i) (named t) = member_kind i (members_in t.kind)
part_kind (Member i) (exception e) = option_map (λ m. m.1) (slice_get e.members i)
part_kind (Outcome o) (interface i) = option_and_then (λ o. o.result) (slice_get i.operations o)
part_kind (Parameter o p) (interface i) = option_and_then (λ o. option_map (λ p. p.kind) (slice_get o.params p)) (slice_get i.operations o)
part_kind p t = None

-- the type of the elements, so many steps into sequences and arrays
abbrev pub element_kind : ℕ → Kind → Option Kind
element_kind zero k = Some k
element_kind (suc n) (sequence k bound) = element_kind n k
element_kind (suc n) (array k len) = element_kind n k
element_kind (suc n) k = None

-- the type that a reference stands for
abbrev pub kind_at : List Thing → TypeRef → Option Kind
kind_at ts r = option_and_then (element_kind r.steps) (option_and_then (part_kind r.part) (slice_get ts r.place))
