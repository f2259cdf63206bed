-- The history of the pipe is legal, whatever the setup, and all that it admits is done. Own profile.
use Rattle.std.specs.Prelude.{◌≡◌, ◌≤◌, ◌+◌, ℕ, List, slice_get, [], ◌∷◌}
use Rattle.orb_base.specs.Outcomes.{body_len}
use Rattle.orb_base.specs.Pool.{Pool}
use Rattle.orb_base.specs.JobRecord.{JobRecord}
use Rattle.orb_base.specs.declared.conn_id.ConnId.{ConnId}
use Rattle.orb_base.specs.declared.limits.TheConstants.{MAX_BODY}
use Rattle.orb_base.specs.declared.outcome.Outcome.{Outcome}
use Rattle.lane_machine.specs.declared.call.How.{How}
use Rattle.lane_machine.specs.declared.call.LaneCall.{LaneCall}
use Rattle.lane_machine.specs.declared.call.LaneCall.TheVariants.{Offer, Post, Cancel, Take, Finish, Collect, End, Leave}
use Rattle.lane_machine.specs.State.{CanOpen, opening}
use Rattle.lane_machine.specs.Readiness.{HasLane, owed}
use Rattle.lane_machine.specs.Histories.{IsLegal}
use Rattle.lane_machine.specs.Fates.{admitted, finished, removed}
use Rattle.adapter_policies.specs.SetupData.{SetupData}
use Rattle.pipe_laws.specs.Setup.{pipe_conn}
use Rattle.pipe_laws.specs.Piped.{piped}

-- a call of a connection's reading side before its end: a request of its own in a lane of the pool, an answer of the reading
-- side, or a cancel
abbrev pub IsHeardCall : Pool → ConnId → LaneCall → Type 0
IsHeardCall pool conn (Offer job) = (job.conn ≡ conn) × HasLane pool.laned job (slice_get pool.lanes job.lane)
IsHeardCall pool conn (Post notice) = notice.conn ≡ conn
IsHeardCall pool conn (Cancel c id) = c ≡ conn
IsHeardCall pool conn (Take t) = ⊥
IsHeardCall pool conn (Finish t answer) = ⊥
IsHeardCall pool conn (Collect c) = ⊥
IsHeardCall pool conn (End c how) = ⊥
IsHeardCall pool conn (Leave slot) = ⊥

-- each call is one
abbrev pub AreHeardCalls : Pool → ConnId → List LaneCall → Type 0
AreHeardCalls pool conn [] = Unit {0}
AreHeardCalls pool conn (call ∷ calls) = IsHeardCall pool conn call × AreHeardCalls pool conn calls

-- no body is longer than an answer may be
abbrev pub HasShortBodies : (List ℕ → JobRecord → Outcome) → Type 0
HasShortBodies outcome = (interface : List ℕ) (job : JobRecord) → body_len (outcome interface job) ≤ MAX_BODY

-- the history of each run of the pipe is legal, over any setup that can open, any servant with short bodies, and calls of one
-- connection in groups of any size
abbrev pub PipedIsLegal : Type 0
PipedIsLegal = (setup : SetupData) (outcome : List ℕ → JobRecord → Outcome) (batch : ℕ) (calls : List LaneCall) (how : How) (lacks : List ℕ)
    → CanOpen setup.pool setup.slots setup.per_slot → HasShortBodies outcome → AreHeardCalls setup.pool pipe_conn calls
    → IsLegal (opening setup.pool setup.slots setup.per_slot) (piped setup outcome batch calls how lacks).history

-- and at its end nothing is owed
abbrev pub PipedOwesNothing : Type 0
PipedOwesNothing = (setup : SetupData) (outcome : List ℕ → JobRecord → Outcome) (batch : ℕ) (calls : List LaneCall) (how : How) (lacks : List ℕ)
    → CanOpen setup.pool setup.slots setup.per_slot → HasShortBodies outcome → AreHeardCalls setup.pool pipe_conn calls
    → owed (piped setup outcome batch calls how lacks).state pipe_conn ≡ 0

-- and each request that it admitted, by its connection and serial number, was finished or removed
abbrev pub PipedIsDone : Type 0
PipedIsDone = (setup : SetupData) (outcome : List ℕ → JobRecord → Outcome) (batch : ℕ) (calls : List LaneCall) (how : How) (lacks : List ℕ)
    → CanOpen setup.pool setup.slots setup.per_slot → HasShortBodies outcome → AreHeardCalls setup.pool pipe_conn calls
    → (conn : ConnId) (serial : ℕ) →
    let s = opening setup.pool setup.slots setup.per_slot in
    let h = (piped setup outcome batch calls how lacks).history in
    finished conn serial h + removed conn serial s h ≡ admitted conn serial h
