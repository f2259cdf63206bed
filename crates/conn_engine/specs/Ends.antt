-- How the reading of a connection comes out, and how the connection is ended then: own profile.
use Rattle.std.specs.Prelude.{◌≡◌, ◌==◌, ℕ, Bool, if◌then◌else◌, List, length, Option, Some, None}
use Rattle.orb_base.specs.declared.conn_id.ConnId.{ConnId}
use Rattle.orb_base.specs.declared.limits.TheConstants.{MAX_MESSAGE}
use Rattle.giop_frames.specs.Stream.{stream}
use Rattle.lane_machine.specs.declared.call.How.{How}
use Rattle.lane_machine.specs.declared.call.How.TheVariants.{Quiet, Bad, Shut}
use Rattle.lane_machine.specs.declared.call.LaneCall.{LaneCall}
use Rattle.adapter_policies.specs.SetupData.{SetupData}
use Rattle.pipe_laws.specs.Piped.{settled, closed_by}
use Rattle.lane_driver.specs.Driving.{Doer}
use Rattle.heard_calls.specs.Input.{at_end}
use Rattle.heard_calls.specs.declared.ending.Ending.{Ending}
use Rattle.heard_calls.specs.declared.ending.Ending.TheVariants.{Ended, Cut, Broken}
use Rattle.conn_engine.specs.HeardSoFar.{HeardSoFar}
use Rattle.conn_engine.specs.declared.read_end.ReadEnd.{ReadEnd}
use Rattle.conn_engine.specs.declared.read_end.ReadEnd.TheVariants as read
use Rattle.conn_engine.specs.declared.read_end.TheConstants.{MAX_TAKEN}

-- how the reading came out of so many bytes: as they decide; or else they are as many as are taken at most; or else a read has answered
-- the end of the input, where something may be unfinished; or else a read failed
abbrev pub read_end : Option Ending → ℕ → Bool → Option ℕ → ReadEnd
read_end (Some ending) taken ended rest = read.Ended ending
read_end None taken ended rest = if taken == MAX_TAKEN then read.Spent else if ended then read.Ended (at_end None rest) else read.ReadFault

-- the bytes mean these calls, and the reading came out so after them; `ended` holds where a read has answered the end of the input
pub record HearsStream (setup : SetupData) (conn : ConnId) (bytes : List ℕ) (ended : Bool) (calls : List LaneCall) (end : ReadEnd) : Type 0 where
  pub ending : Option Ending
  pub heard : HeardSoFar setup conn bytes calls ending
  pub comes : end ≡ read_end ending (length bytes) ended (stream MAX_MESSAGE bytes).rest

-- how the connection is ended
abbrev pub how_of : ReadEnd → How
how_of (read.Ended Ended) = Quiet
how_of (read.Ended (Cut offset)) = Quiet
how_of (read.Ended (Broken offset fault)) = Bad
how_of read.Spent = Shut
how_of read.ReadFault = Quiet

-- the end of the last group, and the end of the connection
abbrev pub finishing : How → Doer
finishing how servant run = closed_by servant how (settled servant run)
