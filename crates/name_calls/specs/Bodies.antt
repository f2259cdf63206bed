-- The bodies of a name service's replies: CORBA 3.0.3, sections 15.3 and 15.4.3.2.
use Rattle.std.specs.Prelude.{ℕ, nat_le, Bool, List, [], ◌∷◌, length, if◌then◌else◌}
use Rattle.std.specs.Int.{w8, w32, from_bool}
use Rattle.orb_base.specs.declared.order.Order.{Order}
use Rattle.orb_base.specs.declared.outcome.Outcome.{Outcome}
use Rattle.orb_base.specs.declared.outcome.Outcome.TheVariants.{Returned, User, System}
use Rattle.orb_base.specs.declared.system.SysName.TheVariants.{Marshal, ImpLimit}
use Rattle.orb_base.specs.declared.system.Completed.TheVariants.{Maybe, No}
use Rattle.cdr_core.specs.Field.{Field, number, string_fields}
use Rattle.cdr_core.specs.Spelling.{fields_bytes}
use Rattle.name_calls.specs.declared.limits.TheConstants.{BODY_PLACE, MAX_ANSWERED}

-- fields from where a body begins
abbrev pub body : Order → List Field → List ℕ
body order fields = fields_bytes order BODY_PLACE fields

-- a truth is returned
abbrev pub truth : Order → Bool → Outcome
truth order b = Returned (body order (number w8 (from_bool b) ∷ []))

-- a number is returned
abbrev pub count : Order → ℕ → Outcome
count order n = Returned (body order (number w32 n ∷ []))

-- IMP_LIMIT, minor 1, completed MAYBE
abbrev pub limited : Outcome
limited = System (record { name = ImpLimit; minor = 1; completed = Maybe })

-- MARSHAL, minor 1, completed NO
abbrev pub marshal : Outcome
marshal = System (record { name = Marshal; minor = 1; completed = No })

-- a text is returned, where a reply has room for it
abbrev pub text : Order → List ℕ → Outcome
text order t = if nat_le (length t) MAX_ANSWERED then Returned (body order (string_fields t)) else limited

-- an exception of the service, which has no members, is raised by its id
abbrev pub raised : Order → List ℕ → Outcome
raised order id = User (body order (string_fields id))
