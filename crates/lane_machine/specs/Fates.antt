-- What became of a request, named by its connection and serial.
use Rattle.std.specs.Prelude.{◌≡◌, ℕ, zero, suc, ◌+◌, ◌<◌, ◌==◌, ◌&&◌, Bool, true, false, List, [], ◌∷◌, Option, Some, None, count_by, find, slice_get, if◌then◌else◌}
use Rattle.std.specs.List.{list_any, sum_by}
use Rattle.turn_cell.specs.declared.entry.Entry.{Entry}
use Rattle.orb_base.specs.declared.conn_id.ConnId.{ConnId}
use Rattle.thread_borrowing.specs.declared.doing.Doing.{Doing}
use Rattle.thread_borrowing.specs.declared.doing.Doing.TheVariants.{Free, Given, Busy}
use Rattle.lane_machine.specs.declared.call.LaneCall.{LaneCall}
use Rattle.lane_machine.specs.declared.call.LaneCall.TheVariants.{Offer, Post, Cancel, Take, Finish, Collect, End, Leave}
use Rattle.lane_machine.specs.declared.call.LaneReply.{LaneReply}
use Rattle.lane_machine.specs.declared.call.LaneReply.TheVariants as reply
use Rattle.orb_base.specs.declared.job.Job.{Job}
use Rattle.lane_machine.specs.State.{State}
use Rattle.thread_borrowing.specs.ThreadList.{Thread}
use Rattle.orb_base.specs.Conn.{same_conn}
use Rattle.lane_machine.specs.Machine.{step}
use Rattle.request_buffer.specs.Kept.{may_cancel}
use Rattle.lane_machine.specs.Histories.{History}

-- 1 for a request of this name, else 0
abbrev pub named : ConnId → ℕ → Job → ℕ
named conn serial job = if same_conn job.conn conn && (job.serial == serial) then 1 else 0

-- 1 where a thread was given a request of this name
abbrev pub given_as : ConnId → ℕ → Doing → ℕ
given_as conn serial Free = 0
given_as conn serial (Given job) = named conn serial job
given_as conn serial (Busy job) = 0

-- 1 where a thread runs a request of this name
abbrev pub busy_as : ConnId → ℕ → Doing → ℕ
busy_as conn serial Free = 0
busy_as conn serial (Given job) = 0
busy_as conn serial (Busy job) = named conn serial job

-- how often it waits
abbrev pub waiting_of : ConnId → ℕ → State → ℕ
waiting_of conn serial s = sum_by (named conn serial) s.waiting

-- how often it was given to a thread that has not taken it
abbrev pub given_of : ConnId → ℕ → State → ℕ
given_of conn serial s = sum_by (λ thread. given_as conn serial thread.doing) s.threads

-- how often it runs
abbrev pub busy_of : ConnId → ℕ → State → ℕ
busy_of conn serial s = sum_by (λ thread. busy_as conn serial thread.doing) s.threads

-- 1 for an Offer of it that was answered Run or Kept
abbrev pub admits : ConnId → ℕ → LaneCall → LaneReply → ℕ
admits conn serial (Offer job) (reply.Run t lent) = named conn serial job
admits conn serial (Offer job) reply.Kept = named conn serial job
admits conn serial call r = 0

-- 1 for a Take that was answered with it
abbrev pub takes : ConnId → ℕ → LaneReply → ℕ
takes conn serial (reply.Given job) = named conn serial job
takes conn serial r = 0

-- 1 for a Finish of it
abbrev pub finishes : ConnId → ℕ → LaneCall → ℕ
finishes conn serial (Finish t answer) = named conn serial answer.job
finishes conn serial call = 0

-- 1 for a request of this name that is there
abbrev pub named_in : ConnId → ℕ → Option Job → ℕ
named_in conn serial None = 0
named_in conn serial (Some job) = named conn serial job

-- 1 for a Cancel that took it out, which names an id: the state tells which request that is
abbrev pub removes : ConnId → ℕ → State → LaneCall → LaneReply → ℕ
removes conn serial s (Cancel c id) reply.Removed = named_in conn serial (find (may_cancel c id) s.waiting)
removes conn serial s call r = 0

-- how often it was admitted
abbrev pub admitted : ConnId → ℕ → History → ℕ
admitted conn serial h = sum_by (λ e. admits conn serial e.call e.reply) h

-- how often it was taken
abbrev pub taken : ConnId → ℕ → History → ℕ
taken conn serial h = sum_by (λ e. takes conn serial e.reply) h

-- how often it was finished
abbrev pub finished : ConnId → ℕ → History → ℕ
finished conn serial h = sum_by (λ e. finishes conn serial e.call) h

-- how often it was removed, along the states of the history
abbrev pub removed : ConnId → ℕ → State → History → ℕ
removed conn serial s [] = 0
removed conn serial s (e ∷ es) = removes conn serial s e.call e.reply + removed conn serial (step s e.call).0 es
