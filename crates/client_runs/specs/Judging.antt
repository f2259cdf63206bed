-- Which call the words ask for by the interfaces that are known, or the first fault of those that are judged before anything is connected:
-- own profile.
use Rattle.std.specs.Prelude.{◌≡◌, ◌⊎◌, ℕ, nat_lt, List, length, codes, if◌then◌else◌, unwrap_or}
use Rattle.std.specs.Prelude.{Option, Some, None, Result, Ok, Err}
use Rattle.std.specs.Result.{result_ok}
use Rattle.orb_base.specs.Span.{Span}
use Rattle.cdr_core.specs.Sequence.{◌>>=◌}
use Rattle.cdr_values.specs.Trees.{Value}
use Rattle.idl_types.specs.Finding as Found
use Rattle.idl_types.specs.Things.{Thing, OperationView}
use Rattle.value_json.specs.Operations.{arguments_in, kinds_in}
use Rattle.reference_lines.specs.declared.refs_end.TheConstants.{MAX_REFERENCE}
use Rattle.client_stub.specs.Asking.{Asked}
use Rattle.client_stub.specs.Choosing.{band_for}
use Rattle.client_stub.specs.Meaning.{remote_of}
use Rattle.client_stub.specs.Remotes.{Remote}
use Rattle.client_stub.specs.Sending.{IsSendable}
use Rattle.client_runs.specs.declared.call_end.CallEnd.{CallEnd}
use Rattle.client_runs.specs.declared.call_end.CallEnd.TheVariants.{Local, NoMemory}
use Rattle.client_runs.specs.declared.call_end.LocalFault.{LocalFault}
use Rattle.client_runs.specs.declared.call_end.LocalFault.TheVariants.{BadReference, NoInterface, NoOperation, BadArguments, NoBand, SharedBand}
use Rattle.client_runs.specs.declared.call_words.CallWords.{CallWords}

-- a thing that is looked for, or this fault where there is none
abbrev pub or_fault : {A : Type 0} → LocalFault → Option A → Result A LocalFault
or_fault fault (Some x) = Ok x
or_fault fault None = Err fault

-- the remote object that a text means
abbrev pub remote_in : List ℕ → Result Remote LocalFault
remote_in text = or_fault BadReference (result_ok (remote_of text))

-- the same of a text that isn't too long
abbrev pub remote_by : List ℕ → Result Remote LocalFault
remote_by text = if nat_lt MAX_REFERENCE (length text) then Err BadReference else remote_in text

-- the id of the interface: that of the words, or else that of the reference's type
abbrev pub interface_id : CallWords → Remote → List ℕ
interface_id words remote = unwrap_or words.interface remote.type_id

-- the operation of a name in the interface of an id, whether it is its own or inherited
abbrev pub operation_in : List Thing → List ℕ → List ℕ → Result OperationView LocalFault
operation_in things id name =
    if Found.is_interface things id then or_fault NoOperation (Found.operation_named things id name) else Err NoInterface

-- the operation of the words
abbrev pub operation_by : CallWords → List Thing → Remote → Result OperationView LocalFault
operation_by words things remote = operation_in things (interface_id words remote) words.operation

-- the text of the arguments; without one there are none
abbrev pub arguments_text : CallWords → List ℕ
arguments_text words = unwrap_or words.arguments (codes "[]")

-- the values of the arguments
abbrev pub arguments_by : CallWords → OperationView → Result (List Value) LocalFault
arguments_by words operation = or_fault BadArguments (arguments_in (kinds_in operation.params) (arguments_text words))

-- the call that the words ask for, without a band; or the first of these faults
unfoldable pub asked_by : CallWords → List Thing → Result Asked LocalFault
asked_by words things = do
  remote ← remote_by words.reference
  operation ← operation_by words things remote
  arguments ← arguments_by words operation
  Ok (record { remote = remote; operation = operation; arguments = arguments; priority = words.priority; band = None })

-- the same call with this band, or without one
abbrev pub with_band : Option Span → Asked → Asked
with_band band asked = record {
  remote = asked.remote;
  operation = asked.operation;
  arguments = asked.arguments;
  priority = asked.priority;
  band = band;
}

-- the words ask for this call: its requests are short enough, and it binds the band that holds the priority that counts, where the
-- reference has bands
pub record AsksFor (words : CallWords) (things : List Thing) (asked : Asked) : Type 0 where
  pub unbound : Asked
  pub is : asked_by words things ≡ Ok unbound
  pub short : IsSendable unbound
  pub band : band_for unbound.remote unbound.priority ≡ Some asked.band
  pub same : asked ≡ with_band asked.band unbound

-- the words ask for a call one of whose requests would be too long
pub record IsLong (words : CallWords) (things : List Thing) : Type 0 where
  pub unbound : Asked
  pub is : asked_by words things ≡ Ok unbound
  pub long : ¬ IsSendable unbound

-- they ask for one whose priority no band holds
pub record LacksBand (words : CallWords) (things : List Thing) : Type 0 where
  pub unbound : Asked
  pub is : asked_by words things ≡ Ok unbound
  pub short : IsSendable unbound
  pub none : band_for unbound.remote unbound.priority ≡ None

-- this is the first fault of the words; that of a link which several callers share is never that of one call
abbrev pub Refuses : LocalFault → CallWords → List Thing → Type 0
Refuses NoBand words things = LacksBand words things
Refuses BadArguments words things = (asked_by words things ≡ Err BadArguments) ⊎ IsLong words things
Refuses SharedBand words things = ⊥
Refuses fault words things = asked_by words things ≡ Err fault

-- a step of the judging answers what is looked for, seen by a view, or its fault; out of memory, nothing is said
abbrev pub Gives : {X Y : Type 0} → (X → Y) → Result X CallEnd → Result Y LocalFault → Type 0
Gives seen (Ok x) asked = asked ≡ Ok (seen x)
Gives seen (Err (Local fault)) asked = asked ≡ Err fault
Gives seen (Err NoMemory) asked = Unit {0}
Gives seen (Err _) asked = ⊥
