-- Laws of what bytes mean so far.
use Rattle.std.specs.Prelude.{◌≡◌, ℕ, Bool, List, ◌++◌, Option, Some, None}
use Rattle.orb_base.specs.declared.conn_id.ConnId.{ConnId}
use Rattle.lane_machine.specs.declared.call.LaneCall.{LaneCall}
use Rattle.adapter_policies.specs.SetupData.{SetupData}
use Rattle.heard_calls.specs.Input.{HearsInput}
use Rattle.heard_calls.specs.declared.ending.Ending.{Ending}
use Rattle.conn_engine.specs.HeardSoFar.{HeardSoFar}
use Rattle.conn_engine.specs.Ends.{HearsStream}
use Rattle.conn_engine.specs.declared.read_end.ReadEnd.{ReadEnd}
use Rattle.conn_engine.specs.declared.read_end.ReadEnd.TheVariants as read

-- bytes mean one list of calls so far, and end the reading in one way, if they do
abbrev pub HeardIsOne : Type 0
HeardIsOne = (setup : SetupData) (conn : ConnId) (bytes : List ℕ) (a b : List LaneCall) (first second : Option Ending)
    → HeardSoFar setup conn bytes a first → HeardSoFar setup conn bytes b second → (a ≡ b) × (first ≡ second)

-- what is heard with further bytes, by how the earlier ones ended the reading: the calls of those come before; after an ending
-- nothing changes
abbrev pub GrowsBy : Option Ending → List LaneCall → List LaneCall → Option Ending → Type 0
GrowsBy None calls all ending = (later : List LaneCall) × (all ≡ calls ++ later)
GrowsBy (Some first) calls all ending = (all ≡ calls) × (ending ≡ Some first)

-- hearing grows with the bytes
abbrev pub HearingGrows : Type 0
HearingGrows = (setup : SetupData) (conn : ConnId) (bytes more : List ℕ) (calls all : List LaneCall) (first ending : Option Ending)
    → HeardSoFar setup conn bytes calls first → HeardSoFar setup conn (bytes ++ more) all ending → GrowsBy first calls all ending

-- a stream whose reading ended by its bytes or at the end of the input means what the bytes mean as a whole input
abbrev pub StreamIsInput : Type 0
StreamIsInput = (setup : SetupData) (conn : ConnId) (bytes : List ℕ) (ended : Bool) (calls : List LaneCall) (ending : Ending)
    → HearsStream setup conn bytes ended calls (read.Ended ending) → HearsInput setup conn bytes calls ending

-- wherever the reading stopped, the calls are those of the bytes as a whole input
abbrev pub StreamHasInput : Type 0
StreamHasInput = (setup : SetupData) (conn : ConnId) (bytes : List ℕ) (ended : Bool) (calls : List LaneCall) (end : ReadEnd)
    → HearsStream setup conn bytes ended calls end → (ending : Ending) × HearsInput setup conn bytes calls ending
