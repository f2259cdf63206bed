-- The framer of a connection between two pieces of its bytes: own profile.
use Rattle.std.specs.Prelude.{◌≡◌, false, List, ◌++◌, Option, Some, None, Result, Ok, Err}
use Rattle.std.specs.List.{All}
use Rattle.orb_base.specs.declared.limits.TheConstants.{MAX_MESSAGE}
use Rattle.giop_frames.specs.Feeds.{Feed}
use Rattle.giop_frames.specs.Messages.{Message}
use Rattle.giop_frames.specs.Stream.{stream}
use Rattle.giop_frames.specs.declared.fault.FeedFault.{FeedFault}
use Rattle.giop_frames.specs.declared.fault.FeedFault.TheVariants as feed
use Rattle.giop_frames.specs.declared.fault.FrameFault.{FrameFault}
use Rattle.giop_messages.specs.MessageReading.{IsMessage}

-- the framer goes on: it was never out of memory
pub record IsFraming (f : Feed) : Type 0 where
  pub limit_is : f.limit ≡ MAX_MESSAGE
  pub enough : f.lacked ≡ false

-- with what was fed these messages were added, each of which can be read, and the stream breaks this
pub record FramesOn (f f' : Feed) (messages : List Message) (bad : Option FrameFault) : Type 0 where
  pub framing : IsFraming f'
  pub messages_are : (stream MAX_MESSAGE f'.fed).messages ≡ (stream MAX_MESSAGE f.fed).messages ++ messages
  pub bad_is : (stream MAX_MESSAGE f'.fed).bad ≡ bad
  pub readable : All IsMessage messages

-- the fault of a feed; that it is out of memory is none
abbrev pub fault_in : {A : Type 0} → Result A FeedFault → Option (Option FrameFault)
fault_in (Ok x) = Some None
fault_in (Err (feed.Frame fault)) = Some (Some fault)
fault_in (Err feed.NoMemory) = None
