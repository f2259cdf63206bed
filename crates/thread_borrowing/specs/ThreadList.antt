-- The threads of a pool and what they do: Real-time CORBA 1.2, Threadpools. A pool is seen as one list of its threads.
use Rattle.std.specs.Prelude.{◌+◌, ◌≤◌, ℕ, Bool, true, false, List, [], ◌∷◌, ◌++◌, replicate, length, position, Option, Some, None, slice_get, slice_set}
use Rattle.orb_base.specs.Conn.{same_conn}
use Rattle.orb_base.specs.declared.limits.TheConstants.{MAX_THREADS}
use Rattle.orb_base.specs.declared.conn_id.ConnId.{ConnId}
use Rattle.orb_base.specs.declared.job.Job.{Job}
use Rattle.orb_base.specs.declared.lane_spec.LaneSpec.{LaneSpec}
use Rattle.thread_borrowing.specs.declared.doing.Doing.{Doing}
use Rattle.thread_borrowing.specs.declared.doing.Doing.TheVariants.{Free, Given, Busy}
use Rattle.thread_borrowing.specs.declared.task.Task.{Task}
use Rattle.thread_borrowing.specs.declared.task.Task.TheVariants as task

-- a thread of a lane: static from the start or dynamic, started or not, and what it does
pub record Thread : Type 0 where
  pub lane : ℕ
  pub is_static : Bool
  pub started : Bool
  pub doing : Doing

-- so many threads of a lane that do nothing yet; the static ones alone are started
abbrev pub some_threads : ℕ → Bool → ℕ → List Thread
some_threads lane kind count = replicate count (record { lane = lane; is_static = kind; started = kind; doing = Free })

-- the threads of the lanes from this one on, in a lane the static ones first
abbrev pub pool_threads : ℕ → List LaneSpec → List Thread
pool_threads lane [] = []
pool_threads lane (spec ∷ specs) = some_threads lane true spec.statics ++ some_threads lane false spec.dynamics ++ pool_threads (lane + 1) specs

-- no more threads than a pool may have
abbrev pub AreFew : List Thread → Type 0
AreFew threads = length threads ≤ MAX_THREADS

-- whether there is a task, and whether it was taken
abbrev pub task_of : Doing → Task
task_of Free = task.Free
task_of (Given _) = task.Given
task_of (Busy _) = task.Busy

-- a thread with this to do has no task
abbrev pub is_free : Doing → Bool
is_free doing = is_none (task_of doing)
  where
    is_none : Task → Bool
    is_none task.Free = true
    is_none task.Given = false
    is_none task.Busy = false

-- a thread with this to do has a task that it hasn't taken yet
abbrev pub is_given : Doing → Bool
is_given (Given _) = true
is_given Free = false
is_given (Busy _) = false

-- the number of the first thread with such a task
abbrev pub first_given : List Thread → Option ℕ
first_given threads = position (λ thread. is_given thread.doing) threads

-- the request, where there is one
abbrev pub job_of : Doing → Option Job
job_of Free = None
job_of (Given job) = Some job
job_of (Busy job) = Some job

-- the thread has a request of the connection
abbrev pub works_for : ConnId → Doing → Bool
works_for conn Free = false
works_for conn (Given job) = same_conn job.conn conn
works_for conn (Busy job) = same_conn job.conn conn

-- the thread with this to do
abbrev pub doing : Thread → Doing → Thread
doing thread deed = record thread { doing = deed }

-- the thread as it is given a request, which starts it
abbrev pub given : Job → Thread → Thread
given job thread = record thread { started = true; doing = Given job }

-- a given request is taken up
abbrev pub taken_up : Doing → Doing
taken_up Free = Free
taken_up (Given job) = Busy job
taken_up (Busy job) = Busy job

-- the thread as it begins with the request that it was given
abbrev pub begun : Thread → Thread
begun thread = doing thread (taken_up thread.doing)

-- the thread without a task
abbrev pub freed : Thread → Thread
freed thread = doing thread Free

-- the threads where the one of a number, if it is there, became another
abbrev pub with_found : (Thread → Thread) → List Thread → ℕ → Option Thread → List Thread
with_found edit threads at None = threads
with_found edit threads at (Some thread) = slice_set threads at (edit thread)

-- the threads with this edit of the one of a number
abbrev pub with_thread : (Thread → Thread) → List Thread → ℕ → List Thread
with_thread edit threads at = with_found edit threads at (slice_get threads at)
