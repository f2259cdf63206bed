-- The bodies of replies: values of types, one after the other (CORBA 3.0.3, sections 15.3 and 15.4).
use Rattle.std.specs.Prelude.{ℕ, ◌+◌, List, [], ◌∷◌, ◌++◌, length, nat_lt, Ok, Err, Option, Some, None, if◌then◌else◌}
use Rattle.orb_base.specs.declared.order.Order.{Order}
use Rattle.orb_base.specs.declared.limits.TheConstants.{MAX_BODY}
use Rattle.cdr_core.specs.Field.{Field}
use Rattle.cdr_core.specs.Spelling.{fields_bytes}
use Rattle.cdr_values.specs.Trees.{Name, Kind, words, Value, text}
use Rattle.cdr_values.specs.Spelling.{fields_of, both}
use Rattle.idl_types.specs.declared.way.Way.{Way}
use Rattle.idl_types.specs.declared.way.Way.TheVariants.{Input, Output, Both}
use Rattle.idl_types.specs.Things.{ParamView}
use Rattle.script_values.specs.declared.limit.Limit.TheVariants.{TooLarge, Misfit}
use Rattle.script_values.specs.Operations.{Comes, member_at, as_items}

-- a value with its type
abbrev pub Typed : Type 0
Typed = Kind × Value

-- a result, where one is due and came
abbrev pub result_of : Option Kind → Option Value → List Typed
result_of k None = []
result_of None (Some v) = []
result_of (Some k) (Some v) = (k, v) ∷ []

-- a parameter, where it comes out
abbrev pub out_of : Way → Kind → Value → List Typed
out_of Input k v = []
out_of Output k v = (k, v) ∷ []
out_of Both k v = (k, v) ∷ []

-- the parameters that come out, from the variable at an index on
abbrev pub outs_from : ℕ → List ParamView → List Value → List Typed
outs_from n [] slots = []
outs_from n (p ∷ ps) slots = out_of p.way p.kind (member_at slots n) ++ outs_from (n + 1) ps slots

-- the members of an exception, from an index on
abbrev pub members_from : ℕ → List (Name × Kind) → List Value → List Typed
members_from n [] vs = []
members_from n (m ∷ ms) vs = (m.1, member_at vs n) ∷ members_from (n + 1) ms vs

-- an exception: its id, then its members
abbrev pub exception_values : Name → List (Name × Kind) → Value → List Typed
exception_values id ms v = (words 0, text id) ∷ members_from 0 ms (as_items v)

-- the fields of values of types; None where one isn't of its type
abbrev pub all_fields : List Typed → Option (List Field)
all_fields [] = Some []
all_fields (x ∷ xs) = both (fields_of x.1 x.0) (all_fields xs)

-- a body is no longer than a reply has room for
abbrev pub within : List ℕ → Comes (List ℕ)
within body = if nat_lt MAX_BODY (length body) then Err TooLarge else Ok body

-- fields spelled from place 24 on
abbrev pub spelled : Order → Option (List Field) → Comes (List ℕ)
spelled order (Some fs) = within (fields_bytes order 24 fs)
spelled order None = Err Misfit

-- the body of a reply that carries these values
abbrev pub body_of : Order → List Typed → Comes (List ℕ)
body_of order xs = spelled order (all_fields xs)
