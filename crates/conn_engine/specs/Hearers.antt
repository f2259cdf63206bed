-- The reading side of a connection between two pieces of its bytes: own profile.
use Rattle.std.specs.Prelude.{◌≡◌, ℕ, false, List, [], ◌++◌, length, Option, None}
use Rattle.std.specs.List.{All}
use Rattle.orb_base.specs.Span.{Span}
use Rattle.orb_base.specs.declared.conn_id.ConnId.{ConnId}
use Rattle.orb_base.specs.declared.limits.TheConstants.{MAX_MESSAGE}
use Rattle.giop_frames.specs.Feeds.{Feed}
use Rattle.giop_frames.specs.Messages.{Message}
use Rattle.giop_frames.specs.Stream.{stream}
use Rattle.giop_frames.specs.declared.fault.FrameFault.{FrameFault}
use Rattle.giop_messages.specs.MessageReading.{IsMessage}
use Rattle.lane_machine.specs.declared.call.LaneCall.{LaneCall}
use Rattle.adapter_policies.specs.SetupData.{SetupData}
use Rattle.heard_calls.specs.declared.ending.Ending.{Ending}
use Rattle.conn_engine.specs.HeardSoFar.{HeardSoFar}

-- a reading side: the setup of its server, its connection, its framer with the bytes that were fed, the band that is bound, how many
-- calls were given, and those calls
pub record Hearer : Type 0 where
  pub setup : SetupData
  pub conn : ConnId
  pub framer : Feed
  pub band : Option Span
  pub made : ℕ
  pub calls : List LaneCall

-- the framer goes on: memory was not wanting
pub record IsFraming (f : Feed) : Type 0 where
  pub limit_is : f.limit ≡ MAX_MESSAGE
  pub enough : f.lacked ≡ false

-- these messages were added, each of which can be read, and the stream breaks this
pub record FramesOn (f f' : Feed) (messages : List Message) (bad : Option FrameFault) : Type 0 where
  pub framing : IsFraming f'
  pub messages_are : (stream MAX_MESSAGE f'.fed).messages ≡ (stream MAX_MESSAGE f.fed).messages ++ messages
  pub bad_is : (stream MAX_MESSAGE f'.fed).bad ≡ bad
  pub readable : All IsMessage messages

-- the reading goes on: the calls that were given are what the bytes mean so far, and nothing has ended it
pub record IsGoing (h : Hearer) : Type 0 where
  pub framing : IsFraming h.framer
  pub heard : HeardSoFar h.setup h.conn h.framer.fed h.calls None
  pub band_is : h.band ≡ heard.told.band
  pub made_is : h.made ≡ length h.calls

-- the reading begins
pub record IsNew (setup : SetupData) (conn : ConnId) (h : Hearer) : Type 0 where
  pub setup_is : h.setup ≡ setup
  pub conn_is : h.conn ≡ conn
  pub none_fed : h.framer.fed ≡ []
  pub none_given : h.calls ≡ []
  pub going : IsGoing h

-- one piece more was fed, and gave these calls and this ending, if one: all bytes mean all calls so far, and end the reading so
pub record FeedsOn (h h' : Hearer) (piece : List ℕ) (calls : List LaneCall) (ending : Option Ending) : Type 0 where
  pub same_setup : h'.setup ≡ h.setup
  pub same_conn : h'.conn ≡ h.conn
  pub fed_is : h'.framer.fed ≡ h.framer.fed ++ piece
  pub calls_are : h'.calls ≡ h.calls ++ calls
  pub heard : HeardSoFar h'.setup h'.conn h'.framer.fed h'.calls ending
  pub goes_on : ending ≡ None → IsGoing h'
