-- How many entries a history has, and how many may still come.
use Rattle.std.specs.Prelude.{ℕ, zero, suc, ◌+◌, ◌*◌, Bool, true, false, List, [], ◌∷◌, length, count_by}
use Rattle.std.specs.List.{sum_by}
use Rattle.orb_base.specs.declared.due.Due.{Due}
use Rattle.orb_base.specs.declared.due.Due.TheVariants as due
use Rattle.orb_base.specs.declared.item.Item.{Item}
use Rattle.thread_borrowing.specs.declared.doing.Doing.{Doing}
use Rattle.thread_borrowing.specs.declared.doing.Doing.TheVariants.{Free, Given, Busy}
use Rattle.lane_machine.specs.declared.call.LaneReply.{LaneReply}
use Rattle.lane_machine.specs.declared.call.LaneReply.TheVariants as reply
use Rattle.orb_base.specs.declared.job.Job.{Job}
use Rattle.lane_machine.specs.State.{State}
use Rattle.thread_borrowing.specs.ThreadList.{Thread}
use Rattle.lane_machine.specs.Histories.{History}

-- a request that runs brings its Finish, and the Collect of a late reply
abbrev pub after_take : Due → ℕ
after_take due.Nothing = 1
after_take due.Early = 1
after_take due.Late = 2

-- one that waits or was given brings its Take besides
abbrev pub to_come : Job → ℕ
to_come job = after_take job.due + 1

-- what a thread brings by what it does
abbrev pub to_do : Doing → ℕ
to_do Free = 0
to_do (Given job) = to_come job
to_do (Busy job) = after_take job.due

-- the entries that what waits, runs and is owed still brings
abbrev pub coming : State → ℕ
coming s = sum_by to_come s.waiting + sum_by (λ thread. to_do thread.doing) s.threads + sum_by (λ i. 1) s.out

-- replies that end a caller's part of a run
abbrev pub is_mark : LaneReply → Bool
is_mark reply.Closing = true
is_mark reply.Ended = true
is_mark reply.Close = true
is_mark reply.Error = true
is_mark reply.Done = true
is_mark reply.Noted = true
is_mark r = false

-- how many replies of a history end something
abbrev pub marks : History → ℕ
marks h = count_by (λ e. is_mark e.reply) h

-- the room of a history
abbrev pub room : State → ℕ
room s = 4 * s.pool.run_calls + 3 * (s.slots * s.per_slot) + s.slots + length s.threads
