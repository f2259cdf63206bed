-- The requests that wait, as queues keep them.
use Rattle.std.specs.Prelude.{◌≡◌, ◌≤◌, ◌<◌, ℕ, zero, suc, Bool, ◌==◌, nat_le, if◌then◌else◌, List, [], ◌∷◌, ◌++◌, map, slice_get, Some}
use Rattle.orb_base.specs.Room.{Room}
use Rattle.orb_base.specs.declared.job.Job.{Job}
use Rattle.thread_borrowing.specs.Choice.{may_run}
use Rattle.request_buffer.specs.declared.sought.Sought.{Sought}
use Rattle.request_buffer.specs.declared.sought.Sought.TheVariants.{Next, Late, Stamped, From}
use Rattle.request_buffer.specs.Kept.{may_cancel}

-- a request and the stamp of its arrival
pub record Entry : Type 0 where
  pub stamp : ℕ
  pub job : Job

-- the same request with another stamp
abbrev pub restamped : ℕ → Entry → Entry
restamped stamp entry = record { stamp = stamp; job = entry.job }

-- the request is one of those that are sought
abbrev pub is_sought : Sought → Entry → Bool
is_sought (Next lane borrowing) entry = may_run borrowing lane entry.job.lane
is_sought (Late conn id) entry = may_cancel conn id entry.job
is_sought (Stamped stamp) entry = entry.stamp == stamp
is_sought (From least) entry = nat_le least entry.stamp

-- what it weighs among those
abbrev pub weight : Sought → Entry → ℕ
weight (Next lane borrowing) entry = entry.job.priority
weight (Late conn id) entry = 0
weight (Stamped stamp) entry = 0
weight (From least) entry = 0

-- the first of two in a queue is of greater priority, or of equal priority and earlier
abbrev pub Precedes : Entry → Entry → Type 0
Precedes first other = (other.job.priority ≤ first.job.priority) × (other.job.priority ≡ first.job.priority → first.stamp < other.stamp)

-- each precedes all after it
abbrev pub InOrder : List Entry → Type 0
InOrder items =
    (j k : ℕ) (first other : Entry) → j < k → slice_get items j ≡ Some first → slice_get items k ≡ Some other → Precedes first other

-- the requests of all queues
abbrev pub entries : List (Room Entry) → List Entry
entries [] = []
entries (queue ∷ queues) = queue.items ++ entries queues

-- those with a stamp
abbrev pub stamped : ℕ → List Entry → List Entry
stamped stamp [] = []
stamped stamp (entry ∷ others) = if entry.stamp == stamp then entry ∷ stamped stamp others else stamped stamp others

-- those with a stamp below a number, by rising stamp
abbrev pub arrived : ℕ → List Entry → List Entry
arrived zero items = []
arrived (suc n) items = arrived n items ++ stamped n items

-- the requests of all queues in order of arrival
unfoldable pub requests_of : ℕ → List (Room Entry) → List Job
requests_of next queues = map (λ entry. entry.job) (arrived next (entries queues))

-- their stamps, in the same order
unfoldable pub stamps_of : ℕ → List (Room Entry) → List ℕ
stamps_of next queues = map (λ entry. entry.stamp) (arrived next (entries queues))
