-- What a framer gives is what a reader of messages takes: CORBA 3.0.3, section 15.4. The limit is own profile.
use Rattle.std.specs.Prelude.{ℕ, ◌≤◌, List, Option, Result}
use Rattle.std.specs.List.{All}
use Rattle.orb_base.specs.declared.limits.TheConstants.{MAX_MESSAGE}
use Rattle.giop_frames.specs.declared.fault.FeedFault.{FeedFault}
use Rattle.giop_frames.specs.Messages.{Message}
use Rattle.giop_frames.specs.Stream.{stream}
use Rattle.giop_frames.specs.Feeds.{Feed, Tells, ReadsStream}
use Rattle.giop_messages.specs.MessageReading.{IsMessage}

-- each message of a stream can be read
abbrev pub StreamsMessages : Type 0
StreamsMessages = (limit : ℕ) (bytes : List ℕ) → limit ≤ MAX_MESSAGE → All IsMessage (stream limit bytes).messages

-- where each message so far can be read, each can after a feed, whatever it answers
abbrev pub FeedsMessages : Type 0
FeedsMessages =
    (result : Result (Unit {0}) FeedFault) (f f' : Feed) (whole whole' : List Message) → f'.limit ≤ MAX_MESSAGE
    → Tells result f f' whole whole' → All IsMessage whole → All IsMessage whole'

-- and after a whole list of feeds
abbrev pub ReadsMessages : Type 0
ReadsMessages =
    (result : Result (Option ℕ) FeedFault) (limit : ℕ) (bytes : List ℕ) (whole whole' : List Message) → limit ≤ MAX_MESSAGE
    → ReadsStream result (stream limit bytes) whole whole' → All IsMessage whole → All IsMessage whole'
