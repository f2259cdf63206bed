-- What a request means to a name service, by its operation's name, its byte order and its body: own profile.
use Rattle.std.specs.Prelude.{ℕ, ◌≤◌, ◌||◌, Bool, false, List, codes, Ok, Err, Option, Some, None, if◌then◌else◌}
use Rattle.std.specs.Str.{bytes_eq}
use Rattle.orb_base.specs.declared.order.Order.{Order}
use Rattle.orb_base.specs.Outcomes.{bad_operation, body_len}
use Rattle.orb_base.specs.declared.limits.TheConstants.{MAX_BODY}
use Rattle.cdr_core.specs.Cursor.{Cursor, cursor, Reads}
use Rattle.cdr_core.specs.Reading.{string_at}
use Rattle.name_map.specs.declared.call.NamesCall.{NamesCall}
use Rattle.name_map.specs.declared.call.NamesCall.TheVariants as call
use Rattle.name_calls.specs.declared.limits.TheConstants.{BODY_PLACE}
use Rattle.name_calls.specs.declared.meaning.Meaning.{Meaning}
use Rattle.name_calls.specs.declared.meaning.Meaning.TheVariants.{Asks, Tells}
use Rattle.name_calls.specs.declared.operation.Operation.{Operation}
use Rattle.name_calls.specs.declared.operation.Operation.TheVariants.{IsA, NonExistent, Bind, Rebind, Resolve, Unbind, Next, Size}
use Rattle.name_calls.specs.Bodies.{truth, limited, marshal}
use Rattle.name_calls.specs.Operations.{operation_named}
use Rattle.name_calls.specs.Parameters.{strings_at, keep_limits}

-- a reply has room for an answer that doesn't need the map
abbrev pub IsShort : Meaning → Type 0
IsShort (Asks ask) = Unit {0}
IsShort (Tells outcome) = body_len outcome ≤ MAX_BODY

-- the id of the service's interface
abbrev pub names_id : List ℕ
names_id = codes "IDL:Orb/Names:1.0"

-- the id of every object's interface
abbrev pub object_id : List ℕ
object_id = codes "IDL:omg.org/CORBA/Object:1.0"

-- whether the service is of the interface of an id: it has two
abbrev pub is_of : List ℕ → Bool
is_of id = bytes_eq id names_id || bytes_eq id object_id

-- whether the service is of an interface, where its id has a reading
abbrev pub kinship : Order → Reads (List ℕ) → Meaning
kinship order (Ok x) = Tells (truth order (is_of x.0))
kinship order (Err f) = Tells marshal

-- a call with one text, where it has a reading
abbrev pub asks_of : (List ℕ → NamesCall) → Reads (List ℕ) → Meaning
asks_of ask (Ok x) = Asks (ask x.0)
asks_of ask (Err f) = Tells marshal

-- a call that binds a key to a target, where both have a reading and keep the limits
abbrev pub binds : (List ℕ → List ℕ → NamesCall) → Reads (List ℕ × List ℕ) → Meaning
binds bind (Ok x) = if keep_limits x.0.0 x.0.1 then Asks (bind x.0.0 x.0.1) else Tells limited
binds bind (Err f) = Tells marshal

-- what an operation means on a body
abbrev pub means : Order → Operation → Cursor → Meaning
means order IsA c = kinship order (string_at c)
means order NonExistent c = Tells (truth order false)
means order Bind c = binds (λ key target. call.Bind key target) (strings_at c)
means order Rebind c = binds (λ key target. call.Rebind key target) (strings_at c)
means order Resolve c = asks_of (λ key. call.Resolve key) (string_at c)
means order Unbind c = asks_of (λ key. call.Unbind key) (string_at c)
means order Next c = asks_of (λ after. call.Next after) (string_at c)
means order Size c = Asks call.Size

-- the same where there is such an operation
abbrev pub meant : Order → Option Operation → Cursor → Meaning
meant order None c = Tells bad_operation
meant order (Some o) c = means order o c

-- what a request means
abbrev pub meaning : Order → List ℕ → List ℕ → Meaning
meaning order operation body = meant order (operation_named operation) (cursor order BODY_PLACE body)
