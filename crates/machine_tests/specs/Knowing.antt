-- What a test knows of the lane machine's state, so that it makes no call that the machine can't be given.
use Rattle.std.specs.Prelude.{◌≡◌, ℕ, Bool, true, false, List, Option, Some, None, slice_get}
use Rattle.orb_base.specs.Pool.{Pool}
use Rattle.orb_base.specs.declared.conn_id.ConnId.{ConnId}
use Rattle.orb_base.specs.declared.job.Job.{Job}
use Rattle.thread_borrowing.specs.declared.doing.Doing.TheVariants.{Busy}
use Rattle.thread_borrowing.specs.ThreadList.{Thread}
use Rattle.lane_machine.specs.State.{State}
use Rattle.lane_machine.specs.declared.call.How.{How}
use Rattle.lane_machine.specs.declared.call.LaneCall.{LaneCall}
use Rattle.lane_machine.specs.declared.call.LaneCall.TheVariants.{Offer, Post, Cancel, Take, Finish, Collect, End, Leave}
use Rattle.lane_machine.specs.declared.call.LaneReply.{LaneReply}

-- the thread of this number carries out the request
abbrev pub HasBusy : List Thread → ℕ → Job → Type 0
HasBusy threads t job = (thread : Thread) × (slice_get threads t ≡ Some thread) × (thread.doing ≡ Busy job)

-- each request in these hands is carried out by the thread of its place
abbrev pub AreBusy : List Thread → List (Option Job) → Type 0
AreBusy threads hands = (t : ℕ) (job : Job) → slice_get hands t ≡ Some (Some job) → HasBusy threads t job

-- nothing is in the hands
abbrev pub AreEmpty : List (Option Job) → Type 0
AreEmpty hands = (t : ℕ) (job : Job) → slice_get hands t ≡ Some (Some job) → ⊥

-- the state has this pool, these connections have ended and these slots left, and each request in hand is carried out
pub record IsKnown (s : State) (pool : Pool) (hands : List (Option Job)) (ended : List (ConnId × How)) (left : List ℕ) : Type 0 where
  pub same_pool : s.pool ≡ pool
  pub same_ended : s.ended ≡ ended
  pub same_left : s.left ≡ left
  pub busy : AreBusy s.threads hands

-- an Offer, a Post, a Cancel or a Collect: what the threads carry out, and what has ended, stays as it is
abbrev pub is_quiet : LaneCall → Bool
is_quiet (Offer job) = true
is_quiet (Post notice) = true
is_quiet (Cancel conn id) = true
is_quiet (Take t) = false
is_quiet (Finish t answer) = false
is_quiet (Collect conn) = true
is_quiet (End conn how) = false
is_quiet (Leave slot) = false

-- the call was answered so by its step, or nothing changed
abbrev pub Tried : State → State × LaneReply → State → Option LaneReply → Type 0
Tried old next new (Some r) = (new ≡ next.0) × (r ≡ next.1)
Tried old next new None = new ≡ old
