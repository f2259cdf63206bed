-- The request for a thread: Real-time CORBA 1.2, Threadpools.
use Rattle.std.specs.Prelude.{ℕ, Bool, List, Option}
use Rattle.orb_base.specs.declared.job.Job.{Job}
use Rattle.thread_borrowing.specs.Choice.{first_greatest, may_run}

-- the position of the waiting request that a thread of this lane takes next: the earliest of those of greatest priority
unfoldable pub next_job : Bool → ℕ → List Job → Option ℕ
next_job borrowing lane waiting = first_greatest (λ job. may_run borrowing lane job.lane) (λ job. job.priority) waiting
