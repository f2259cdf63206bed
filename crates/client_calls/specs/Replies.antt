-- What a reply means to a call: CORBA 3.0.3, section 15.4.3.
use Rattle.std.specs.Prelude.{◌≡◌, ℕ, ◌==◌, ◌%◌, List, [], ◌∷◌, Result, Ok, Err, if◌then◌else◌}
use Rattle.std.specs.Int.{w32}
use Rattle.orb_base.specs.Room.{Room}
use Rattle.banded_links.specs.declared.bind_client.TheConstants.{NO_EXCEPTION}
use Rattle.cdr_core.specs.Cursor.{Cursor, cursor, Reads}
use Rattle.cdr_core.specs.Reading.{number_at, string_at}
use Rattle.cdr_core.specs.Sequence.{◌>>=◌}
use Rattle.cdr_values.specs.Reading.{read, then_values}
use Rattle.cdr_values.specs.Trees.{Kind, Value}
use Rattle.cdr_values.specs.Values.{values_view}
use Rattle.cdr_values.specs.declared.fault.DecodeFault.{DecodeFault}
use Rattle.cdr_values.specs.declared.fault.DecodeFault.TheVariants as decoding
use Rattle.cdr_values.specs.declared.value.IdlValue.{IdlValue}
use Rattle.idl_types.specs.Things.{OperationView}
use Rattle.value_json.specs.Operations.{kinds_out}
use Rattle.client_lines.specs.Answer.{Answer}
use Rattle.client_calls.specs.declared.call_fault.CallFault.{CallFault}
use Rattle.client_calls.specs.declared.call_fault.CallFault.TheVariants.{System, User, Forward, BadBody, NoMemory}
use Rattle.client_calls.specs.declared.meaning.TheConstants.{USER_EXCEPTION, SYSTEM_EXCEPTION}
use Rattle.client_calls.specs.declared.system_exception.SystemException.{SystemException}

-- what a call comes to: the values of its results, or why there are none
abbrev pub Outcome : Type 0
Outcome = Result (List Value) CallFault

-- what a call answered, with its values as trees
abbrev pub seen : Result (Room IdlValue) CallFault → Outcome
seen (Ok values) = Ok (values_view values.items)
seen (Err fault) = Err fault

-- a value. The place after it may be counted modulo 8, since none is aligned on more
abbrev pub value_at : Kind → Cursor → Reads Value
value_at k c = read k c >>= λ x. Ok (x.0, cursor x.1.order (x.1.place % 8) x.1.rest)

-- values one after another, one of each type
unfoldable pub values_at : List Kind → Cursor → Reads (List Value)
values_at [] c = Ok ([], c)
values_at (k ∷ ks) c = value_at k c >>= then_values (values_at ks)

-- a system exception: its id and two numbers
abbrev pub system_at : Cursor → Reads SystemException
system_at c =
    string_at c >>= λ id. number_at w32 id.1 >>= λ minor. number_at w32 minor.1 >>= λ completed.
    Ok (record { id = id.0; minor = minor.0; completed = completed.0 }, completed.1)

-- what a call comes to where the body holds results
abbrev pub giving : List Value → Outcome
giving values = Ok values

-- an exception of an IDL file, by its id
abbrev pub telling_user : List ℕ → Outcome
telling_user id = Err (User id)

-- a system exception
abbrev pub telling_system : SystemException → Outcome
telling_system exception = Err (System exception)

-- what is made of a reading, whatever follows; a body without one is bad
abbrev pub or_bad : {A : Type 0} → (A → Outcome) → Reads A → Outcome
or_bad made (Ok x) = made x.0
or_bad made (Err fault) = Err BadBody

-- what a reply to a call of the operation means by its status, where its body is at the cursor: the result, where there is one, and the
-- values of the parameters that come back, in order; an exception of an IDL file, whose members aren't looked at; a system exception; or
-- that the object is elsewhere
abbrev pub by_status : OperationView → ℕ → Cursor → Outcome
by_status operation status body =
    if status == NO_EXCEPTION then or_bad giving (values_at (kinds_out operation) body)
    else if status == USER_EXCEPTION then or_bad telling_user (string_at body)
    else if status == SYSTEM_EXCEPTION then or_bad telling_system (system_at body) else Err (Forward status)

-- what a reply means to a call of the operation. Its body begins at a multiple of 8 of the message, so that places may be counted from 0
abbrev pub meaning_of : OperationView → Answer → Outcome
meaning_of operation a = by_status operation a.status (cursor a.order 0 a.body)

-- what a call answered is that; out of memory, nothing is said
unfoldable pub Means : Outcome → Outcome → Type 0
Means (Err NoMemory) meaning = Unit {0}
Means outcome meaning = outcome ≡ meaning

-- the fault of a call whose reply's body can't be decoded
abbrev pub fault_of : DecodeFault → CallFault
fault_of (decoding.Cdr fault) = BadBody
fault_of decoding.NoMemory = NoMemory
