-- The exchange of a call: what is sent, and what the call comes to, by all bytes that the connection gave and whether its end was met.
-- CORBA 3.0.3, section 15.4; which messages are passed over, and how many bytes are taken at most, is own profile.
use Rattle.std.specs.Prelude.{◌≡◌, ℕ, ◌==◌, Bool, List, [], ◌∷◌, ◌++◌, Option, Some, None, option_map, is_some, Ok, Err, if◌then◌else◌}
use Rattle.orb_base.specs.Span.{Span}
use Rattle.banded_links.specs.declared.bind_client.TheConstants.{NO_EXCEPTION}
use Rattle.heard_messages.specs.Hearing.{HeardBy}
use Rattle.heard_messages.specs.Inputs.{HearsStream}
use Rattle.heard_messages.specs.declared.read_end.ReadEnd.{ReadEnd}
use Rattle.heard_messages.specs.declared.read_end.ReadEnd.TheVariants as ends
use Rattle.idl_types.specs.Things.{OperationView}
use Rattle.client_lines.specs.Answer.{Answer}
use Rattle.client_lines.specs.Awaiting.{first, means}
use Rattle.client_lines.specs.declared.awaited.TheConstants.{BIND_ID, FIRST_ID, NEXT_ID}
use Rattle.client_stub.specs.Asking.{Asked}
use Rattle.client_stub.specs.Sending.{call_bytes, bind_bytes}
use Rattle.client_calls.specs.Replies.{Outcome, meaning_of}
use Rattle.client_calls.specs.declared.call_fault.CallFault.{CallFault}
use Rattle.client_calls.specs.declared.call_fault.CallFault.TheVariants.{Refused, Closed, ReadFault, Limit}

-- whether a band is bound before the call
abbrev pub binds : Asked → Bool
binds asked = is_some asked.band

-- what is sent after these answers where a band is bound first: the bind, and the call once the bind was answered without an exception
abbrev pub due_after : Asked → Span → List Answer → Option (List ℕ)
due_after asked band [] = Some (bind_bytes BIND_ID asked band)
due_after asked band (a ∷ later) =
    if a.status == NO_EXCEPTION then option_map (λ call. bind_bytes BIND_ID asked band ++ call) (call_bytes NEXT_ID asked)
    else Some (bind_bytes BIND_ID asked band)

-- what is sent after these answers, by the band
abbrev pub due_by : Option Span → Asked → List Answer → Option (List ℕ)
due_by None asked answers = call_bytes FIRST_ID asked
due_by (Some band) asked answers = due_after asked band answers

-- what is sent after these answers
abbrev pub due : Asked → List Answer → Option (List ℕ)
due asked answers = due_by asked.band asked answers

-- what a call comes to without the reply, by how the reading came out; where the bytes leave that open, a read failed
abbrev pub came_by : ReadEnd → CallFault
came_by ends.Ended = Closed
came_by (ends.Cut offset) = Closed
came_by (ends.Broken offset fault) = Refused offset fault
came_by ends.Spent = Limit
came_by ends.ReadFault = ReadFault

-- what the first of the answers means, or what the call comes to without one
abbrev pub first_meaning : OperationView → List Answer → ReadEnd → Outcome
first_meaning operation [] end = Err (came_by end)
first_meaning operation (a ∷ later) end = meaning_of operation a

-- what the call comes to once it is sent: a oneway call awaits nothing
abbrev pub called : OperationView → List Answer → ReadEnd → Outcome
called operation answers end = if operation.oneway then Ok [] else first_meaning operation answers end

-- the same where a band is bound first: a bind that is answered with an exception is what the call comes to
abbrev pub bound : OperationView → List Answer → ReadEnd → Outcome
bound operation [] end = Err (came_by end)
bound operation (a ∷ later) end = if a.status == NO_EXCEPTION then called operation later end else meaning_of operation a

-- what the call comes to by the answers of the connection and by how its reading came out
abbrev pub outcome_of : Asked → List Answer → ReadEnd → Outcome
outcome_of asked answers end = if binds asked then bound asked.operation answers end else called asked.operation answers end

-- the bytes give these answers so far, and end the reading so, if they do
abbrev pub HeardSo : Asked → List ℕ → List Answer → Option ReadEnd → Type 0
HeardSo asked bytes answers ending = HeardBy (means (binds asked)) (first (binds asked)) bytes answers ending

-- of a call: so much is sent where the connection gave these bytes, after which its end was met or not, and the call comes to that
pub record Exchange (asked : Asked) (sent got : List ℕ) (ended : Bool) (outcome : Outcome) : Type 0 where
  pub answers : List Answer
  pub end : ReadEnd
  pub stream : HearsStream (means (binds asked)) (first (binds asked)) got ended answers end
  pub sent_is : due asked answers ≡ Some sent
  pub outcome_is : outcome ≡ outcome_of asked answers end
