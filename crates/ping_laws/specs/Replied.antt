-- What the pipe's output says to the requests of its input.
use Rattle.std.specs.Prelude.{◌≡◌, ◌⊎◌, ℕ, Bool, false, List, [], ◌∷◌, Some, None, codes}
use Rattle.std.specs.Int.{w16}
use Rattle.orb_base.specs.Outcomes.{no_memory}
use Rattle.orb_base.specs.declared.limits.TheConstants.{MAX_MESSAGE}
use Rattle.orb_base.specs.declared.order.Order.{Order}
use Rattle.cdr_core.specs.Field.{number_bytes}
use Rattle.giop_frames.specs.Messages as Frames
use Rattle.giop_frames.specs.Stream.{stream}
use Rattle.giop_messages.specs.Message.{Message, reply}
use Rattle.giop_messages.specs.Written.{wholes_from}
use Rattle.orb_base.specs.JobRecord.{JobRecord}
use Rattle.orb_base.specs.declared.outcome.Outcome.{Outcome}
use Rattle.ping_laws.specs.Telling.{TellPriorities}
use Rattle.item_writer.specs.ItemBytes.{reply_status, reply_body, bare}
use Rattle.pipe_laws.specs.Said.{said}
use Rattle.lane_machine.specs.Histories.{History}
use Rattle.pipe_laws.specs.Setup.{pipe_conn}
use Rattle.conn_engine.specs.Streams.{IsRunOf}
use Rattle.conn_engine.specs.declared.read_end.ReadEnd.{ReadEnd}
use Rattle.ping_laws.specs.Built.{IsBuilt, IsPing}
use Rattle.ping_laws.specs.declared.place.Place.{Place}
use Rattle.ping_laws.specs.Setup.{IsRunnable, place_of}
use Rattle.adapter_policies.specs.BuiltIn.{built_in}
use Rattle.adapter_policies.specs.SetupData.{SetupData}

-- the reply that returns a priority, as a short
abbrev pub priority_reply : Order → ℕ → ℕ → Message
priority_reply order id level = reply (bare id 0 (number_bytes order w16 level))

-- the reply that raises NO_MEMORY
abbrev pub no_memory_reply : Order → ℕ → Message
no_memory_reply order id = reply (bare id (reply_status no_memory) (reply_body order no_memory))

-- the framed message is read as a request for `current` of an object, and this is a reply to it: in its byte order, with its id, and
-- with the priority that the object's adapter mandates, or NO_MEMORY
pub record IsReplyTo (setup : SetupData) (m : Frames.Message) (r : Order × Message) : Type 0 where
  pub ping : IsPing setup m
  pub same_order : r.0 ≡ m.order
  pub says : (r.1 ≡ priority_reply m.order ping.r.id ping.place.level) ⊎ (r.1 ≡ no_memory_reply m.order ping.r.id)

-- one reply to each of the messages, in their order
abbrev pub AreRepliesTo : SetupData → List Frames.Message → List (Order × Message) → Type 0
AreRepliesTo setup [] [] = Unit {0}
AreRepliesTo setup [] (r ∷ rs) = ⊥
AreRepliesTo setup (m ∷ ms) [] = ⊥
AreRepliesTo setup (m ∷ ms) (r ∷ rs) = IsReplyTo setup m r × AreRepliesTo setup ms rs

-- what the pipe of a setup of one thread, whose servants tell priorities, writes in groups of one to such bytes, however their reading came
-- out, and where no limit of the run is met, is read as one reply to each request of the bytes, in the order in which the requests were completed, and as nothing else
abbrev pub PingsReplied : Type 0
PingsReplied =
    (setup : SetupData) → IsRunnable setup → (outcome : List ℕ → JobRecord → Outcome) → TellPriorities setup outcome
    → (earlier input : List ℕ) (ended : Bool) (end : ReadEnd) (entries : History) → IsBuilt setup input
    → IsRunOf setup outcome 1 earlier input ended end false entries
    → (replies : List (Order × Message)) × AreRepliesTo setup (stream MAX_MESSAGE input).messages replies
    × (stream MAX_MESSAGE (said pipe_conn entries) ≡ record { messages = wholes_from 0 replies; rest = None; bad = None })

-- in the built-in setup requests run for the key `ping` alone, at the priority 100
abbrev pub PingRunsAt100 : Type 0
PingRunsAt100 = (key : List ℕ) (place : Place) → place_of built_in key ≡ Some place → (key ≡ codes "ping") × (place.level ≡ 100)

-- with such servants no such bytes meet a limit of the run in the built-in setup. They are at most 8,192, and so no more requests; each is one of the 65,536 calls
-- that a run may hear, and of its 67,108,864 bytes a request takes 48 and the answer 2 at most
abbrev pub MeetsNoLimit : Type 0
MeetsNoLimit = (outcome : List ℕ → JobRecord → Outcome) → TellPriorities built_in outcome
    → (earlier input : List ℕ) (ended : Bool) (end : ReadEnd) (entries : History) (closing : Bool) → IsBuilt built_in input
    → IsRunOf built_in outcome 1 earlier input ended end closing entries → closing ≡ false
