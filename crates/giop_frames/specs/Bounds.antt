-- How many bytes are kept between two feeds: own profile.
use Rattle.std.specs.Prelude.{ℕ, ◌+◌, ◌≤◌, List, [], ◌∷◌, length, drop, sum_by}
use Rattle.giop_frames.specs.Pieces.{cut}
use Rattle.giop_frames.specs.Messages.{Partial, Message, unfinished}
use Rattle.giop_frames.specs.Running.{State}

-- each of these messages is within the limit
abbrev pub AreWithin : ℕ → List Partial → Type 0
AreWithin limit [] = Unit {0}
AreWithin limit (u ∷ us) = (length u.bytes ≤ limit) × AreWithin limit us

-- each of these messages has its header
abbrev pub AreLong : List Partial → Type 0
AreLong [] = Unit {0}
AreLong (u ∷ us) = (12 ≤ length u.bytes) × AreLong us

-- at most 16 unfinished messages, each within the limit, which has room for a header and an id
pub record IsBounded (limit : ℕ) (us : List Partial) : Type 0 where
  pub few : length us ≤ 16
  pub within : AreWithin limit us
  pub long : AreLong us
  pub least : 16 ≤ limit

-- the bytes of unfinished messages
abbrev pub held : List Partial → ℕ
held us = sum_by (λ u. length u.bytes) us

-- the bytes that have come of the next piece, and those of the unfinished messages
abbrev pub kept_bytes : State → ℕ
kept_bytes s = length s.tail + held s.partials

-- the bytes of whole messages
abbrev pub message_bytes : List Message → ℕ
message_bytes messages = sum_by (λ m. length m.bytes) messages

-- the bytes of the messages that were appended to these
abbrev pub appended_bytes : List Message → List Message → ℕ
appended_bytes whole whole' = message_bytes (drop (length whole) whole')

-- what has come of the unfinished messages of a stream, joined, and of its unfinished piece
abbrev pub unfinished_bytes : List ℕ → ℕ
unfinished_bytes fed =
    sum_by (λ u. length u.bytes) (unfinished (cut (length fed) 0 fed).whole) + length (cut (length fed) 0 fed).tail.bytes
