-- Operators and members in the check of an expression: what they ask of their operands, and what they give (own profile).
use Rattle.std.specs.Prelude.{ℕ, ◌+◌, Bool, true, false, Ok, Option, Some, None, if◌then◌else◌}
use Rattle.std.specs.Str.{bytes_eq}
use Rattle.cdr_values.specs.Trees.{Name, Kind, Members, no_members, member}
use Rattle.idl_types.specs.References.{members_in}
use Rattle.idl_types.specs.declared.type_ref.TypeRef.{TypeRef}
use Rattle.script_grammar.specs.declared.operator.Unary.{Unary}
use Rattle.script_grammar.specs.declared.operator.Unary.TheVariants as un
use Rattle.script_grammar.specs.declared.operator.Binary.{Binary}
use Rattle.script_grammar.specs.declared.operator.Binary.TheVariants as op
use Rattle.servant_scripts.specs.declared.phrase.At.{At}
use Rattle.servant_scripts.specs.declared.phrase.Part.{Part}
use Rattle.script_values.specs.Trees.{Term, unary, member_of}
use Rattle.script_checks.specs.declared.fault.CheckCause.TheVariants as cause
use Rattle.script_checks.specs.Kinds.{same_kind, number_kind, truth_kind, has_len, is_simple, element_of}
use Rattle.script_checks.specs.Scene.{Typed, Checks, ◌>>=◌, refused, or_refused, if_holds}
use Rattle.script_checks.specs.Naming.{as_struct}

-- ---- one operand

-- an operator of one operand may be before this kind
abbrev pub suits : Unary → Kind → Bool
suits un.Negate k = same_kind number_kind k
suits un.Not k = same_kind truth_kind k
suits un.Len k = has_len k
suits un.Group k = true

-- the kind that it gives
abbrev pub gives : Unary → Kind → Kind
gives un.Negate k = number_kind
gives un.Not k = truth_kind
gives un.Len k = number_kind
gives un.Group k = k

-- the operator with its operand, which begins there
abbrev pub with_unary : Unary → At → Typed → Checks Typed
with_unary o at x = if_holds (suits o x.1) cause.Kind at (unary o x.0, gives o x.1)

-- only parentheses hand on the type that is due, so that a list may be in them
abbrev pub want_in : Unary → Option TypeRef → Option TypeRef
want_in un.Group want = want
want_in o want = None

-- ---- members

-- the index and the type of a member
abbrev pub find_member : ℕ → Members → Name → Option (ℕ × Kind)
find_member n no_members name = None
find_member n (member m k ms) name = if bytes_eq m name then Some (n, k) else find_member (n + 1) ms name

-- a member of a struct: of anything else it is asked at the struct's beginning, and one that isn't there at its name
abbrev pub with_member : At → Part → Typed → Checks Typed
with_member at p x =
    or_refused cause.Kind at (as_struct x.1)
    >>= λ k. or_refused cause.UnknownName p.at (find_member 0 (members_in k) p.name)
    >>= λ m. Ok (member_of x.0 m.0, m.1)

-- ---- two operands

-- both operands of these are numbers
abbrev pub takes_numbers : Binary → Bool
takes_numbers op.Or = false
takes_numbers op.And = false
takes_numbers op.Same = false
takes_numbers op.Differs = false
takes_numbers op.Index = false
takes_numbers o = true

-- the kind that numbers or truths give
abbrev pub joins : Binary → Kind
joins op.Add = number_kind
joins op.Subtract = number_kind
joins op.Multiply = number_kind
joins op.Divide = number_kind
joins op.Remainder = number_kind
joins o = truth_kind

-- an expression of a due kind, which begins there
abbrev pub needs : Option Kind → At → Typed → Checks Term
needs None at x = refused cause.Kind at
needs (Some k) at x = if_holds (same_kind k x.1) cause.Kind at x.0

-- what an operator asks of its first operand, which begins there: the kind that its second one must have, and what both give
abbrev pub asks : Binary → At → Typed → Checks (Kind × Kind)
asks op.Or at x = if_holds (same_kind truth_kind x.1) cause.Kind at (truth_kind, truth_kind)
asks op.And at x = if_holds (same_kind truth_kind x.1) cause.Kind at (truth_kind, truth_kind)
asks op.Same at x = if_holds (is_simple x.1) cause.Kind at (x.1, truth_kind)
asks op.Differs at x = if_holds (is_simple x.1) cause.Kind at (x.1, truth_kind)
asks op.Index at x = or_refused cause.Kind at (element_of x.1) >>= λ k. Ok (number_kind, k)
asks o at x = if_holds (same_kind number_kind x.1) cause.Kind at (number_kind, joins o)
