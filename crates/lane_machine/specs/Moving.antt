-- The lists of threads and of waiting requests as a thread goes on.
use Rattle.std.specs.Prelude.{ℕ, Bool, List, Option, Some, None, slice_get, slice_set, remove}
use Rattle.orb_base.specs.declared.job.Job.{Job}
use Rattle.thread_borrowing.specs.ThreadList.{Thread, given, freed}
use Rattle.request_buffer.specs.Next.{next_job}
use Rattle.lane_machine.specs.State.{State}
use Rattle.lane_machine.specs.Machine as machine

-- the thread goes on with the waiting request of this place
abbrev pub handed_lists : ℕ → List Thread → List Job → Thread → ℕ → Option Job → List Thread × List Job
handed_lists t threads waiting thread at (Some job) = (slice_set threads t (given job thread), remove waiting at)
handed_lists t threads waiting thread at None = (threads, waiting)

-- the thread goes on with it, or is free
abbrev pub next_lists : ℕ → List Thread → List Job → Thread → Option ℕ → List Thread × List Job
next_lists t threads waiting thread (Some at) = handed_lists t threads waiting thread at (slice_get waiting at)
next_lists t threads waiting thread None = (slice_set threads t (freed thread), waiting)

-- the thread of this number goes on with the next request that it may run, or is free
abbrev pub freed_lists : Bool → ℕ → List Thread → List Job → Option Thread → List Thread × List Job
freed_lists borrowing t threads waiting (Some thread) = next_lists t threads waiting thread (next_job borrowing thread.lane waiting)
freed_lists borrowing t threads waiting None = (threads, waiting)

-- the state after that
abbrev pub given_next : State → ℕ → Option Thread → State
given_next s t (Some thread) = machine.freed s t thread (next_job s.pool.borrowing thread.lane s.waiting)
given_next s t None = s
