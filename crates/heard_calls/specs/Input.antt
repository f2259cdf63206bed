-- What a whole input of a connection means: own profile.
use Rattle.std.specs.Prelude.{◌≡◌, ℕ, List, Option, Some, None, Result, Ok, Err}
use Rattle.orb_base.specs.declared.conn_id.ConnId.{ConnId}
use Rattle.orb_base.specs.declared.limits.TheConstants.{MAX_MESSAGE}
use Rattle.giop_frames.specs.Stream.{stream}
use Rattle.giop_frames.specs.declared.fault.FeedFault.{FeedFault}
use Rattle.giop_frames.specs.declared.fault.FeedFault.TheVariants as feed
use Rattle.giop_frames.specs.declared.fault.FrameFault.{FrameFault}
use Rattle.giop_messages.specs.declared.refused.Fault.TheVariants.{Frame}
use Rattle.lane_machine.specs.declared.call.LaneCall.{LaneCall}
use Rattle.adapter_policies.specs.SetupData.{SetupData}
use Rattle.heard_calls.specs.Hearing.{Told, Hears}
use Rattle.heard_calls.specs.declared.ending.Ending.{Ending}
use Rattle.heard_calls.specs.declared.ending.Ending.TheVariants.{Ended, Cut, Broken}

-- how an input ended of which no message ended the reading: at the piece that breaks a rule, within a message, or else well
abbrev pub at_end : Option FrameFault → Option ℕ → Ending
at_end (Some fault) rest = Broken fault.offset (Frame fault.cause)
at_end None (Some offset) = Cut offset
at_end None None = Ended

-- how an input ended: by a message, or else at its end
abbrev pub ending_of : Option Ending → Option FrameFault → Option ℕ → Ending
ending_of (Some ending) bad rest = ending
ending_of None bad rest = at_end bad rest

-- the bytes, a whole input, mean these calls and end so
pub record HearsInput (setup : SetupData) (conn : ConnId) (bytes : List ℕ) (calls : List LaneCall) (ending : Ending) : Type 0 where
  pub told : Told
  pub hears : Hears setup conn (stream MAX_MESSAGE bytes).messages None 0 told
  pub calls_are : calls ≡ told.calls
  pub ends : ending ≡ ending_of told.ending (stream MAX_MESSAGE bytes).bad (stream MAX_MESSAGE bytes).rest

-- the fault of a feed; out of memory is none
abbrev pub fault_in : {A : Type 0} → Result A FeedFault → Option (Option FrameFault)
fault_in (Ok x) = Some None
fault_in (Err (feed.Frame fault)) = Some (Some fault)
fault_in (Err feed.NoMemory) = None
