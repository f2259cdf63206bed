-- What the bytes of a connection mean so far, whatever follows them: own profile.
use Rattle.std.specs.Prelude.{◌≡◌, ℕ, List, Option, Some, None}
use Rattle.orb_base.specs.declared.conn_id.ConnId.{ConnId}
use Rattle.orb_base.specs.declared.limits.TheConstants.{MAX_MESSAGE}
use Rattle.giop_frames.specs.Stream.{stream}
use Rattle.giop_frames.specs.declared.fault.FrameFault.{FrameFault}
use Rattle.giop_messages.specs.declared.refused.Fault.TheVariants.{Frame}
use Rattle.lane_machine.specs.declared.call.LaneCall.{LaneCall}
use Rattle.adapter_policies.specs.SetupData.{SetupData}
use Rattle.heard_calls.specs.Hearing.{Told, Hears}
use Rattle.heard_calls.specs.declared.ending.Ending.{Ending}
use Rattle.heard_calls.specs.declared.ending.Ending.TheVariants.{Broken}

-- how bytes end the reading, if they do: by a message, or else by a piece that breaks a rule of framing
abbrev pub decided : Option Ending → Option FrameFault → Option Ending
decided (Some ending) bad = Some ending
decided None (Some fault) = Some (Broken fault.offset (Frame fault.cause))
decided None None = None

-- the bytes mean these calls so far, and end the reading so, if they do
pub record HeardSoFar (setup : SetupData) (conn : ConnId) (bytes : List ℕ) (calls : List LaneCall) (ending : Option Ending) : Type 0 where
  pub told : Told
  pub hears : Hears setup conn (stream MAX_MESSAGE bytes).messages None 0 told
  pub calls_are : calls ≡ told.calls
  pub ends : ending ≡ decided told.ending (stream MAX_MESSAGE bytes).bad
