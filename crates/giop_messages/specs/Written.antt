-- Messages that are written one after the other are read as those messages. The limit is own profile.
use Rattle.std.specs.Prelude.{◌≡◌, ℕ, ◌+◌, ◌≤◌, true, List, [], ◌∷◌, None, Ok, length}
use Rattle.std.specs.List.{flat_map}
use Rattle.orb_base.specs.declared.order.Order.{Order}
use Rattle.orb_base.specs.declared.limits.TheConstants.{MAX_MESSAGE}
use Rattle.giop_frames.specs.Messages as Frames
use Rattle.giop_frames.specs.Stream.{stream}
use Rattle.giop_frames.specs.Kinds.{is_long_kind}
use Rattle.giop_frames.specs.Splitting.{IsUncut}
use Rattle.giop_messages.specs.Message.{Message, Fits, kind_of}
use Rattle.giop_messages.specs.Spelling.{spelled}
use Rattle.giop_messages.specs.MessageReading.{message_at}

-- messages, each as it is spelled in its order, one after the other
abbrev pub written_bytes : List (Order × Message) → List ℕ
written_bytes messages = flat_map (λ m. spelled m.0 m.1) messages

-- the whole message that a framer gives of a spelled one at this offset
abbrev pub whole_at : ℕ → Order → Message → Frames.Message
whole_at at order message = record { at = at; order = order; kind = kind_of message; bytes = spelled order message }

-- those of messages one after the other, from this offset on: each is where it begins
abbrev pub wholes_from : ℕ → List (Order × Message) → List Frames.Message
wholes_from at [] = []
wholes_from at (m ∷ later) = whole_at at m.0 m.1 ∷ wholes_from (at + length (spelled m.0 m.1)) later

-- the widths can hold each of these messages, and each is spelled in at most so many bytes
abbrev pub AreWritten : ℕ → List (Order × Message) → Type 0
AreWritten limit [] = Unit {0}
AreWritten limit (m ∷ later) = Fits m.1 × (length (spelled m.0 m.1) ≤ limit) × AreWritten limit later

-- the stream of messages written one after the other is those messages and nothing else: no rest and no fault
abbrev pub StreamsWritten : Type 0
StreamsWritten =
    (limit : ℕ) (messages : List (Order × Message)) → limit ≤ MAX_MESSAGE → AreWritten limit messages
    → stream limit (written_bytes messages) ≡ record { messages = wholes_from 0 messages; rest = None; bad = None }

-- each of them is read as the message that was written
abbrev pub ReadsWritten : Type 0
ReadsWritten =
    (at : ℕ) (order : Order) (message : Message) → Fits message → length (spelled order message) ≤ MAX_MESSAGE
    → message_at (whole_at at order message) ≡ Ok message

-- and one of a kind that may come in fragments can be cut into pieces
abbrev pub UncutWritten : Type 0
UncutWritten =
    (order : Order) (message : Message) → length (spelled order message) ≤ MAX_MESSAGE → is_long_kind (kind_of message) ≡ true
    → IsUncut (spelled order message)
