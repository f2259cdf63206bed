-- Declarators, and types with a body: CORBA 3.0.3, chapter 3, type declarations and exceptions.
use Rattle.std.specs.Prelude.{ℕ, ℤ, ◌||◌, nat_lt, max, reverse, Bool, true, false, not, List, [], ◌∷◌, ◌++◌, length, Ok}
use Rattle.std.specs.List.{list_any}
use Rattle.grammar.specs.Language.{Placed}
use Rattle.grammar.specs.Reading.{◌>>=◌}
use Rattle.cdr_values.specs.Trees.{scalar, structure, union, enumeration, members_of, cases_of}
use Rattle.std.specs.Ordering.{int_eq}
use Rattle.idl_tokens.specs.declared.kind.Kind.{Kind}
use Rattle.idl_grammar.specs.declared.fault.IdlCause.TheVariants as cause
use Rattle.idl_scopes.specs.Table.{other}
use Rattle.idl_scopes.specs.Finding.{outer}
use Rattle.idl_scopes.specs.Ids.{id_of}
use Rattle.idl_constants.specs.ConstValues.{label_of}
use Rattle.idl_constants.specs.Fitting.{fit}
use Rattle.idl_constants.specs.Standing.{may_switch}
use Rattle.idl_names.specs.Sizes.{Sized, plus, leaf, arrays_of}
use Rattle.idl_names.specs.State.{Thing, nothing, type, exception, enumerator, Parts, Built}
use Rattle.idl_names.specs.Changes.{Done, place_of, unless, newest, opened, place_at, name_at, declare_in, become, ends, counted, measured}
use Rattle.idl_names.specs.Values.{fitting}

-- the lengths of the newest array, the innermost first
abbrev pub inner_lengths : Built → List ℕ
inner_lengths s = reverse s.lengths

-- a declarator: the newest name, of the newest type with these lengths
abbrev pub declared_type : Built → Sized
declared_type s = arrays_of (inner_lengths s) s.type

-- the newest name stands for this, and is finished; the lengths are used up
abbrev pub named : Thing → Built → Built
named thing s = record (become (newest s) other thing s) { lengths = [] }

-- its type isn't too large, which is given at its name
abbrev pub measured_name : Built → Done
measured_name s = measured (declared_type s) (place_at s (newest s)) s

-- the newest name stands for this type
abbrev pub type_named : Sized → Built → Done
type_named k s = Ok (named (type k) s)

-- the newest name stands for its type, whose leaves are counted
abbrev pub typedef : Built → Done
typedef s = measured_name s >>= counted (declared_type s).leaves (place_at s (newest s)) >>= type_named (declared_type s)

-- a part adds its leaves, and lifts the levels
abbrev pub with_part : Sized → Parts → Parts
with_part k p = record p { leaves = plus p.leaves k.leaves; levels = max p.levels k.levels }

-- one more member of a struct or exception
abbrev pub with_member : List ℕ → Sized → Parts → Parts
with_member name k p = with_part k (record p { members = p.members ++ (name, k.kind) ∷ [] })

-- the newest name is a member of this type
abbrev pub member_named : Built → Done
member_named s = Ok (named nothing (record s { parts = with_member (name_at s (newest s)) (declared_type s) s.parts }))

-- the newest name is a member
abbrev pub member : Built → Done
member s = measured_name s >>= member_named

-- one more case, with the labels that are before it
abbrev pub with_case : List ℕ → Sized → Parts → Parts
with_case name k p = with_part k (record p { cases = p.cases ++ (p.labels, p.is_default, name, k.kind) ∷ []; labels = []; is_default = false })

-- the newest name is a case of this type
abbrev pub case_named : Built → Done
case_named s = Ok (named nothing (record s { parts = with_case (name_at s (newest s)) (declared_type s) s.parts }))

-- the newest name is a case
abbrev pub case_member : Built → Done
case_member s = measured_name s >>= case_named

-- a type with a body, at its end
abbrev pub ends_type : Sized → Built → Done
ends_type k s = measured k (place_at s (opened s)) s >>= counted k.leaves (place_at s (opened s)) >>= ends other (type k)

-- the repository id of the declaration whose body is open
abbrev pub open_id : Built → List ℕ
open_id s = id_of s.scopes (opened s)

-- a struct has the leaves of its members, and is a level above them
abbrev pub end_struct : Built → Done
end_struct s = ends_type (record { kind = structure (open_id s) (members_of s.parts.members); leaves = s.parts.leaves; levels = plus s.parts.levels 1 }) s

-- an exception is no level
abbrev pub end_exception : Built → Done
end_exception s =
    unless (nat_lt 65536 s.parts.leaves) cause.TooLarge (place_at s (opened s)) s
    >>= counted s.parts.leaves (place_at s (opened s)) >>= ends other (exception s.parts.members)

-- a union has one leaf more than its cases
abbrev pub end_union : Built → Done
end_union s =
    ends_type (record { kind = union (open_id s) s.parts.discriminator (cases_of s.parts.cases); leaves = plus s.parts.leaves 1; levels = plus s.parts.levels 1 }) s

-- an enum is one leaf
abbrev pub end_enum : Built → Done
end_enum s = ends_type (leaf (scalar (enumeration (open_id s) s.parts.enumerators))) s

-- an enumerator belongs to the scope around its enum
abbrev pub with_enumerator : List ℕ → Parts → Parts
with_enumerator name p = record p { enumerators = p.enumerators ++ name ∷ [] }

-- a token's text is one more label
abbrev pub label_named : Placed Kind → Built → Done
label_named t s = Ok (record s { parts = with_enumerator t.text s.parts })

-- it is declared there, with the next number
abbrev pub enumerate : Placed Kind → Built → Done
enumerate t s = declare_in (outer s.scopes s.here) other (enumerator (open_id s) (length s.parts.enumerators)) t s >>= label_named t

-- a union's discriminator, and its labels, each once
abbrev pub switch : Built → Done
switch s = unless (not (may_switch s.type.kind)) cause.WrongKind s.last s >>= (λ s. Ok (record s { parts = record s.parts { discriminator = s.type.kind } }))

-- the union has this label already
abbrev pub is_twice : ℤ → Parts → Bool
is_twice z p = list_any (int_eq z) p.taken

-- one more label of the case that is read
abbrev pub with_label : ℤ → Parts → Parts
with_label z p = record p { taken = p.taken ++ z ∷ []; labels = p.labels ++ z ∷ [] }

-- the newest value is one more label, if it is the first of its number
abbrev pub labelled : Built → Done
labelled s =
    unless (is_twice (label_of s.value.value) s.parts) cause.TwiceCase s.value.at s
    >>= (λ s. Ok (record s { parts = with_label (label_of s.value.value) s.parts }))

-- the newest value is a label: it fits the discriminator, and is the first of its number
abbrev pub case_label : Built → Done
case_label s = fitting (fit s.parts.discriminator s.value.value) s >>= labelled

-- the union has a default label already
abbrev pub has_default : Parts → Bool
has_default p = p.is_default || list_any (λ c. c.1) p.cases

-- a union has one default label at most
abbrev pub default_label : Placed Kind → Built → Done
default_label t s = unless (has_default s.parts) cause.TwiceCase (place_of t) s >>= (λ s. Ok (record s { parts = record s.parts { is_default = true } }))
