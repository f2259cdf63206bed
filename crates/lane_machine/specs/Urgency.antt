-- Which thread is given which request.
use Rattle.std.specs.Prelude.{◌≡◌, ◌≤◌, ℕ, Bool, true, false, Option, Some, None, slice_get}
use Rattle.thread_borrowing.specs.declared.doing.Doing.{Doing}
use Rattle.thread_borrowing.specs.declared.doing.Doing.TheVariants.{Free, Given, Busy}
use Rattle.orb_base.specs.declared.job.Job.{Job}
use Rattle.lane_machine.specs.State.{State}
use Rattle.thread_borrowing.specs.ThreadList.{Thread, is_free}
use Rattle.thread_borrowing.specs.Choice.{may_run}

-- no thread is without a task while a request that it may run waits
abbrev pub NoneIdles : State → Type 0
NoneIdles s = (t : ℕ) (thread : Thread) (k : ℕ) (job : Job) → slice_get s.threads t ≡ Some thread → is_free thread.doing ≡ true → slice_get s.waiting k ≡ Some job → may_run s.pool.borrowing thread.lane job.lane ≡ false

-- the thread was given the request between the two states
abbrev pub IsGiven : State → State → ℕ → Thread → Job → Type 0
IsGiven s s' t thread job = (slice_get s'.threads t ≡ Some thread) × (thread.doing ≡ Given job) × ¬ (slice_get s.threads t ≡ Some thread)

-- no request that waits and that a thread of this lane may run is before the job: of greater priority, or earlier and of equal priority
abbrev pub IsFirst : State → ℕ → Job → Type 0
IsFirst s lane job = (k : ℕ) (other : Job) → slice_get s.waiting k ≡ Some other → may_run s.pool.borrowing lane other.lane ≡ true
    → (other.priority ≤ job.priority) × (other.priority ≡ job.priority → (at : ℕ) × (at ≤ k) × (slice_get s.waiting at ≡ Some job))
