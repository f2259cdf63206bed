-- When a call of the lane machine is answered, and what its caller keeps.
use Rattle.std.specs.Prelude.{◌≡◌, ◌≤◌, ℕ, zero, suc, ◌+◌, Bool, true, false, ◌==◌, ◌&&◌, ◌||◌, nat_le, Option, Some, None, is_some, count_by, slice_get}
use Rattle.std.specs.List.{list_any}
use Rattle.orb_base.specs.Conn.{same_conn}
use Rattle.orb_base.specs.Outcomes.{body_len}
use Rattle.orb_base.specs.declared.limits.TheConstants.{MAX_OWED, MAX_BODY}
use Rattle.orb_base.specs.declared.conn_id.ConnId.{ConnId}
use Rattle.orb_base.specs.declared.lane_spec.LaneSpec.{LaneSpec}
use Rattle.orb_base.specs.declared.job.Job.{Job}
use Rattle.orb_base.specs.declared.answer.Answer.{Answer}
use Rattle.lane_machine.specs.declared.call.LaneCall.{LaneCall}
use Rattle.lane_machine.specs.declared.call.LaneCall.TheVariants.{Offer, Post, Cancel, Take, Finish, Collect, End, Leave}
use Rattle.thread_borrowing.specs.declared.doing.Doing.{Doing}
use Rattle.thread_borrowing.specs.declared.doing.Doing.TheVariants.{Free, Given, Busy}
use Rattle.thread_borrowing.specs.declared.task.Task.{Task}
use Rattle.thread_borrowing.specs.declared.task.Task.TheVariants as task
use Rattle.thread_borrowing.specs.ThreadList.{Thread, works_for, task_of}
use Rattle.lane_machine.specs.State.{State}
use Rattle.lane_machine.specs.Machine.{item_conn, item_place, end_of}

-- what is owed to a connection: its requests that wait, were given or are run, and its items
unfoldable pub owed : State → ConnId → ℕ
owed s conn =
    count_by (λ job. same_conn job.conn conn) s.waiting + count_by (λ thread. works_for conn thread.doing) s.threads
    + count_by (λ i. same_conn (item_conn i) conn) s.out

-- the test holds of each number below this one
abbrev pub all_below : (ℕ → Bool) → ℕ → Bool
all_below passes zero = true
all_below passes (suc n) = passes n && all_below passes n

-- the slot left
abbrev pub has_left : State → ℕ → Bool
has_left s slot = list_any (λ l. l == slot) s.left

-- every slot left
abbrev pub all_left : State → Bool
all_left s = all_below (has_left s) s.slots

-- a thread takes a given task, or ends once no request can come any more
abbrev pub goes_on : State → Task → Bool
goes_on s task.Given = true
goes_on s task.Free = all_left s
goes_on s task.Busy = false

-- a thread that does this can take
abbrev pub can_go_on : State → Doing → Bool
can_go_on s doing = goes_on s (task_of doing)

-- the thread of this number can take
abbrev pub can_take : State → Option Thread → Bool
can_take s (Some thread) = can_go_on s thread.doing
can_take s None = false

-- the call is answered now; else it waits
abbrev pub is_ready : State → LaneCall → Bool
is_ready s (Offer job) = s.closing || nat_le (owed s job.conn) MAX_OWED
is_ready s (Post notice) = s.closing || nat_le (owed s notice.conn) MAX_OWED
is_ready s (Cancel conn id) = true
is_ready s (Take t) = can_take s (slice_get s.threads t)
is_ready s (Finish t answer) = true
is_ready s (Collect conn) = is_some (item_place s conn) || ((owed s conn == 0) && (is_some (end_of s conn) || s.closing))
is_ready s (End conn how) = true
is_ready s (Leave slot) = true

-- with lanes a request has its lane's priority
abbrev pub HasLane : Bool → Job → Option LaneSpec → Type 0
HasLane laned job (Some lane) = laned ≡ true → lane.priority ≡ job.priority
HasLane laned job None = ⊥

-- the thread is busy with the answer's request
abbrev pub IsBusyWith : Answer → Option Thread → Type 0
IsBusyWith answer (Some thread) = thread.doing ≡ Busy answer.job
IsBusyWith answer None = ⊥

-- what a caller keeps: a request's lane is there, a thread's number is there and finishes what it took, a connection ends
-- once, and a slot leaves once
abbrev pub IsSound : State → LaneCall → Type 0
IsSound s (Offer job) = HasLane s.pool.laned job (slice_get s.pool.lanes job.lane)
IsSound s (Post notice) = Unit {0}
IsSound s (Cancel conn id) = Unit {0}
IsSound s (Take t) = is_some (slice_get s.threads t) ≡ true
IsSound s (Finish t answer) = IsBusyWith answer (slice_get s.threads t) × (body_len answer.outcome ≤ MAX_BODY)
IsSound s (Collect conn) = Unit {0}
IsSound s (End conn how) = end_of s conn ≡ None
IsSound s (Leave slot) = has_left s slot ≡ false
