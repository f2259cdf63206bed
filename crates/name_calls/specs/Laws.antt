-- Laws of requests to a name service.
use Rattle.std.specs.Prelude.{◌≡◌, ◌↔◌, ℕ, ◌≤◌, not, Bool, true, false, List, [], length, Ok, Err, None}
use Rattle.orb_base.specs.declared.order.Order.{Order}
use Rattle.orb_base.specs.declared.outcome.Outcome.TheVariants.{Returned}
use Rattle.orb_base.specs.Outcomes.{bad_operation}
use Rattle.cdr_core.specs.Cursor.{Cursor, Reads}
use Rattle.cdr_core.specs.Field.{string_fields}
use Rattle.cdr_core.specs.Reading.{string_at}
use Rattle.turn_cell.specs.History.{Legal}
use Rattle.turn_cell.specs.Numbers.{Each}
use Rattle.name_map.specs.declared.call.NamesCall.{NamesCall}
use Rattle.name_map.specs.declared.call.NamesCall.TheVariants as call
use Rattle.name_map.specs.declared.call.NamesReply.{NamesReply}
use Rattle.name_map.specs.declared.call.NamesReply.TheVariants.{Stored, Target, Key, Count, AlreadyBound, NoRoom, NotFound}
use Rattle.name_map.specs.Callers.{History}
use Rattle.name_map.specs.Machine.{step}
use Rattle.name_calls.specs.declared.limits.TheConstants.{MAX_KEY, MAX_TARGET}
use Rattle.name_calls.specs.declared.meaning.Meaning.TheVariants.{Asks, Tells}
use Rattle.name_calls.specs.declared.operation.Operation.{Operation}
use Rattle.name_calls.specs.declared.operation.Operation.TheVariants.{IsA, NonExistent, Bind, Rebind, Resolve, Unbind, Next, Size}
use Rattle.name_calls.specs.Bodies.{body, text, limited, marshal}
use Rattle.name_calls.specs.Meanings.{meaning, means}
use Rattle.name_calls.specs.Operations.{operation_named}
use Rattle.name_calls.specs.Parameters.{strings_at, keep_limits}

-- ---- where a request is refused

-- whether a reading gives a value
abbrev pub is_read : {A : Type 0} → Reads A → Bool
is_read (Ok x) = true
is_read (Err f) = false

-- whether a body has the parameters of an operation
abbrev pub has_parameters : Operation → Cursor → Bool
has_parameters IsA c = is_read (string_at c)
has_parameters NonExistent c = true
has_parameters Bind c = is_read (strings_at c)
has_parameters Rebind c = is_read (strings_at c)
has_parameters Resolve c = is_read (string_at c)
has_parameters Unbind c = is_read (string_at c)
has_parameters Next c = is_read (string_at c)
has_parameters Size c = true

-- whether a key and a target were read that break their limits
abbrev pub are_long : Reads (List ℕ × List ℕ) → Bool
are_long (Ok x) = not (keep_limits x.0.0 x.0.1)
are_long (Err f) = false

-- whether an operation that binds has parameters that break their limits
abbrev pub breaks_limits : Operation → Cursor → Bool
breaks_limits IsA c = false
breaks_limits NonExistent c = false
breaks_limits Bind c = are_long (strings_at c)
breaks_limits Rebind c = are_long (strings_at c)
breaks_limits Resolve c = false
breaks_limits Unbind c = false
breaks_limits Next c = false
breaks_limits Size c = false

-- BAD_OPERATION is answered exactly where the service has no operation of the name
abbrev pub RefusesUnknown : Type 0
RefusesUnknown = (order : Order) (name body : List ℕ) → (meaning order name body ≡ Tells bad_operation) ↔ (operation_named name ≡ None)

-- MARSHAL exactly where the body hasn't the operation's parameters
abbrev pub RefusesUnread : Type 0
RefusesUnread = (order : Order) (operation : Operation) (c : Cursor)
    → (means order operation c ≡ Tells marshal) ↔ (has_parameters operation c ≡ false)

-- and IMP_LIMIT exactly where the operation binds, and its parameters break their limits
abbrev pub RefusesLong : Type 0
RefusesLong = (order : Order) (operation : Operation) (c : Cursor)
    → (means order operation c ≡ Tells limited) ↔ (breaks_limits operation c ≡ true)

-- ---- how long texts get

-- a call that binds keeps the limits of its texts
abbrev pub KeepsLimits : NamesCall → Type 0
KeepsLimits (call.Bind key target) = keep_limits key target ≡ true
KeepsLimits (call.Rebind key target) = keep_limits key target ≡ true
KeepsLimits (call.Resolve key) = Unit {0}
KeepsLimits (call.Unbind key) = Unit {0}
KeepsLimits (call.Next after) = Unit {0}
KeepsLimits call.Size = Unit {0}

-- a call that a request means keeps them
abbrev pub AsksWithinLimits : Type 0
AsksWithinLimits = (order : Order) (name body : List ℕ) (ask : NamesCall) → meaning order name body ≡ Asks ask → KeepsLimits ask

-- a reply's text is no longer than such a key or target
abbrev pub IsShortReply : NamesReply → Type 0
IsShortReply Stored = Unit {0}
IsShortReply (Target target) = length target ≤ MAX_TARGET
IsShortReply (Key key) = length key ≤ MAX_KEY
IsShortReply (Count n) = Unit {0}
IsShortReply AlreadyBound = Unit {0}
IsShortReply NoRoom = Unit {0}
IsShortReply NotFound = Unit {0}

-- where the calls of a history keep the limits, the texts of its replies are short
abbrev pub RepliesAreShort : Type 0
RepliesAreShort = (h : History) → Each (λ e. KeepsLimits e.call) h → Legal (λ _ _. true) (λ _ _. Unit {0}) step [] h
    → Each (λ e. IsShortReply e.reply) h

-- a short text is answered whole
abbrev pub ShortTextsAreAnswered : Type 0
ShortTextsAreAnswered = (order : Order) (t : List ℕ) → length t ≤ MAX_TARGET → text order t ≡ Returned (body order (string_fields t))
