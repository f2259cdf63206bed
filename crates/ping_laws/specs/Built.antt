-- Inputs of requests for `current` alone.
use Rattle.std.specs.Prelude.{◌≡◌, ◌≤◌, ℕ, ◌==◌, Bool, false, List, [], ◌∷◌, Some, None, length}
use Rattle.std.specs.List.{AllByRecursion, list_any}
use Rattle.orb_base.specs.Outcomes.{bad_operation}
use Rattle.orb_base.specs.JobRecord.{JobRecord}
use Rattle.orb_base.specs.declared.limits.TheConstants.{MAX_MESSAGE}
use Rattle.orb_base.specs.declared.outcome.Outcome.{Outcome}
use Rattle.giop_frames.specs.Messages.{Message}
use Rattle.giop_frames.specs.Stream.{stream}
use Rattle.giop_messages.specs.Message.{Request, request}
use Rattle.giop_messages.specs.Reading.{ReadsIn}
use Rattle.lane_machine.specs.declared.call.LaneCall.{LaneCall}
use Rattle.lane_machine.specs.declared.call.LaneCall.TheVariants.{Offer}
use Rattle.lane_machine.specs.declared.call.How.TheVariants.{Quiet}
use Rattle.lane_machine.specs.Histories.{IsLegal}
use Rattle.ping_laws.specs.declared.laws.TheConstants.{MAX_PINGS}
use Rattle.ping_laws.specs.declared.place.Place.{Place}
use Rattle.ping_laws.specs.Setup.{opened, place_of}
use Rattle.pipe_laws.specs.Setup.{interface_of, pipe_conn}
use Rattle.adapter_policies.specs.SetupData.{SetupData}
use Rattle.ping_laws.specs.Ping.{ping_request}
use Rattle.pipe_laws.specs.Piped.{piped, piped_bytes}

-- the request is for `current` of the object of a key, with a reply due, without contexts and body, and runs at this place: the
-- priority that the object's adapter mandates, which has a native one
pub record IsAsked (setup : SetupData) (r : Request) (place : Place) : Type 0 where
  pub key : List ℕ
  pub asks : r ≡ ping_request r.id key
  pub placed : place_of setup key ≡ Some place

-- the message is such a request, in either order
pub record IsPing (setup : SetupData) (m : Message) : Type 0 where
  pub r : Request
  pub place : Place
  pub asked : IsAsked setup r place
  pub reads : ReadsIn m.order (request r) m.bytes

-- few bytes, whose stream has no fault and leaves nothing unfinished, and whose messages are such requests
pub record IsBuilt (setup : SetupData) (input : List ℕ) : Type 0 where
  pub few : length input ≤ MAX_PINGS
  pub sound : (stream MAX_MESSAGE input).bad ≡ None
  pub whole : (stream MAX_MESSAGE input).rest ≡ None
  pub pings : AllByRecursion (IsPing setup) (stream MAX_MESSAGE input).messages

-- memory is wanting to no job whose outcome is BAD_OPERATION, which takes none
abbrev pub Spares : SetupData → (List ℕ → JobRecord → Outcome) → List ℕ → List LaneCall → Type 0
Spares setup outcome lacks [] = Unit {0}
Spares setup outcome lacks (Offer job ∷ calls) =
    (outcome (interface_of setup job.target) job ≡ bad_operation → list_any (λ serial. serial == job.serial) lacks ≡ false)
    × Spares setup outcome lacks calls
Spares setup outcome lacks (_ ∷ calls) = Spares setup outcome lacks calls
