-- What becomes of the requests of a run: Real-time CORBA 1.2, Threadpools.
use Rattle.std.specs.Prelude.{◌≡◌, ◌≤◌, ◌+◌, ◌⊎◌, ℕ, true, [], ◌∷◌, ◌++◌, Some, slice_get}
use Rattle.orb_base.specs.declared.conn_id.ConnId.{ConnId}
use Rattle.orb_base.specs.declared.job.Job.{Job}
use Rattle.thread_borrowing.specs.ThreadList.{Thread}
use Rattle.thread_borrowing.specs.Choice.{may_run}
use Rattle.lane_machine.specs.State.{State}
use Rattle.lane_machine.specs.Histories.{History}
use Rattle.lane_machine.specs.Fates as fate
use Rattle.lane_machine.specs.declared.call.LaneCall.{LaneCall}
use Rattle.lane_machine.specs.declared.call.LaneCall.TheVariants.{Offer, Take}
use Rattle.lane_machine.specs.declared.call.LaneReply.{LaneReply}
use Rattle.lane_machine.specs.declared.call.LaneReply.TheVariants.{Run, Kept, Given}

-- a request, named by its connection and serial number, is admitted at most once; each that was admitted was finished, or removed by its
-- client before it ran; and it was taken where it was finished, and nowhere else
pub record RunsOnce (s : State) (h : History) : Type 0 where
  pub once : (conn : ConnId) (serial : ℕ) → fate.admitted conn serial h ≤ 1
  pub settled : (conn : ConnId) (serial : ℕ) → fate.finished conn serial h + fate.removed conn serial s h ≡ fate.admitted conn serial h
  pub ran : (conn : ConnId) (serial : ℕ) → fate.taken conn serial h ≡ fate.finished conn serial h

-- the thread may run the request: its lane is the request's, or it is lent from a lower one
pub record MayRun (s : State) (t : ℕ) (job : Job) : Type 0 where
  pub thread : Thread
  pub there : slice_get s.threads t ≡ Some thread
  pub may : may_run s.pool.borrowing thread.lane job.lane ≡ true

-- a thread that takes a request may run it
abbrev pub TakesOwn : State → LaneCall → LaneReply → Type 0
TakesOwn s (Take t) (Given job) = MayRun s t job
TakesOwn s call r = Unit {0}

-- so it is at each entry
abbrev pub RunsInLanes : State → History → Type 0
RunsInLanes s [] = Unit {0}
RunsInLanes s (e ∷ es) = TakesOwn s e.call e.reply × RunsInLanes s es

-- the entry admits the request: it offers it, and is answered that it runs or waits
abbrev pub Admits : LaneCall → LaneReply → Job → Type 0
Admits (Offer job) (Run t lent) other = job ≡ other
Admits (Offer job) Kept other = job ≡ other
Admits call r other = ⊥

-- one of the entries does
abbrev pub WasAdmitted : History → Job → Type 0
WasAdmitted [] job = ⊥
WasAdmitted (e ∷ es) job = Admits e.call e.reply job ⊎ WasAdmitted es job

-- a request that a thread takes was admitted by an entry before
abbrev pub TakesAdmitted : History → LaneCall → LaneReply → Type 0
TakesAdmitted before (Take t) (Given job) = WasAdmitted before job
TakesAdmitted before call r = Unit {0}

-- so it is at each entry after these
abbrev pub RunsAdmitted : History → History → Type 0
RunsAdmitted before [] = Unit {0}
RunsAdmitted before (e ∷ es) = TakesAdmitted before e.call e.reply × RunsAdmitted (before ++ e ∷ []) es
