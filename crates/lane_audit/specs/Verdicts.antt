-- What a judgement of an entry says, in the words of the lane machine's definition of a step.
use Rattle.std.specs.Prelude.{◌≡◌, ◌≢◌, ◌<◌, ◌≤◌, ◌+◌, ℕ, Bool, true, false, length, take, Option, Some, None, Result, Ok, Err}
use Rattle.orb_base.specs.declared.job.Job.{Job}
use Rattle.thread_borrowing.specs.ThreadList.{Thread, is_given}
use Rattle.lane_machine.specs.State.{State}
use Rattle.lane_machine.specs.Machine.{step}
use Rattle.lane_machine.specs.Readiness.{is_ready, IsSound}
use Rattle.lane_machine.specs.Histories.{History, IsLegal}
use Rattle.lane_machine.specs.declared.call.LaneCall.{LaneCall}
use Rattle.lane_machine.specs.declared.call.LaneReply.{LaneReply}
use Rattle.lane_machine.specs.declared.call.LaneReply.TheVariants as reply

-- the reply is that of a step, and then the new state is too; or it isn't, and the state stayed
abbrev pub Answers : State → State × LaneReply → LaneReply → State → Bool → Type 0
Answers s next r s' true = (r ≡ next.1) × (s' ≡ next.0)
Answers s next r s' false = (r ≢ next.1) × (s' ≡ s)

-- the same; out of memory the state stayed
abbrev pub Tries : {E : Type 0} → State → State × LaneReply → LaneReply → State → Result Bool E → Type 0
Tries s next r s' (Ok b) = Answers s next r s' b
Tries s next r s' (Err _) = s' ≡ s

-- the task of a thread, or that there will be none
abbrev pub task_reply : Option Job → LaneReply
task_reply (Some job) = reply.Given job
task_reply None = reply.Ended

-- the thread has a task that it hasn't taken yet
abbrev pub gives : Option Thread → Bool
gives (Some thread) = is_given thread.doing
gives None = false

-- the entry is one that the rules allow: its call is answered now, its caller keeps to its part, and the reply is the step's
pub record IsRight (s : State) (call : LaneCall) (r : LaneReply) : Type 0 where
  pub ready : is_ready s call ≡ true
  pub sound : IsSound s call
  pub answered : r ≡ (step s call).1

-- the entry is right, and then the new state is that after it; or it isn't
abbrev pub Judges : State → LaneCall → LaneReply → State → Bool → Type 0
Judges s call r s' true = IsRight s call r × (s' ≡ (step s call).0)
Judges s call r s' false = ¬ IsRight s call r

-- the entries before this one are legal together, and with it they aren't, where there is one
pub record IsFirstWrong (s : State) (h : History) (first : ℕ) : Type 0 where
  pub within : first ≤ length h
  pub legal : IsLegal s (take first h)
  pub wrong : first < length h → ¬ IsLegal s (take (first + 1) h)
