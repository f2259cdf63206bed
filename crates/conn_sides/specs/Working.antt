-- What a worker calls: own profile.
use Rattle.std.specs.Prelude.{◌≡◌, ◌≤◌, ℕ, List, [], ◌∷◌, ◌++◌}
use Rattle.turn_cell.specs.declared.entry.Entry.{Entry}
use Rattle.turn_cell.specs.Seats.{CellView}
use Rattle.orb_base.specs.JobRecord.{JobRecord}
use Rattle.orb_base.specs.Outcomes.{body_len}
use Rattle.orb_base.specs.declared.answer.Answer.{Answer}
use Rattle.orb_base.specs.declared.limits.TheConstants.{MAX_BODY}
use Rattle.orb_base.specs.declared.outcome.Outcome.{Outcome}
use Rattle.lane_machine.specs.Histories.{History}
use Rattle.lane_machine.specs.State.{State}
use Rattle.lane_machine.specs.declared.call.LaneCall.{LaneCall}
use Rattle.lane_machine.specs.declared.call.LaneCall.TheVariants.{Take, Finish}
use Rattle.lane_machine.specs.declared.call.LaneReply.{LaneReply}
use Rattle.lane_machine.specs.declared.call.LaneReply.TheVariants as reply
use Rattle.pipe_laws.specs.Lacking.{CameOf}
use Rattle.lane_pool.specs.Pass.{Pass}
use Rattle.conn_sides.specs.Entering.{entry, Entered}

-- the answer is the job's, with what came of it, and its body is no longer than an answer's may be
pub record CarriesOut (outcome : JobRecord → Outcome) (job : JobRecord) (answer : Answer) : Type 0 where
  pub same_job : answer.job ≡ job
  pub came : CameOf outcome job answer.outcome
  pub short : body_len answer.outcome ≤ MAX_BODY

-- a task is taken
abbrev pub take_entry : ℕ → ℕ → LaneReply → Entry State LaneCall LaneReply
take_entry number thread reply = entry number (Take thread) reply

-- a task is finished with this outcome
abbrev pub finish_entry : ℕ → ℕ → JobRecord → Outcome → Entry State LaneCall LaneReply
finish_entry number thread job came = entry number (Finish thread (record { job = job; outcome = came })) reply.Finished

-- the tasks of a worker, one after another: each is taken, and then finished with what came of it
pub data Worked (outcome : JobRecord → Outcome) (number thread : ℕ) : History → Type 0 where
  none : Worked outcome number thread []
  more : (h : History) (job : JobRecord) (came : Outcome) → Worked outcome number thread h → CameOf outcome job came
      → Worked outcome number thread (h ++ (take_entry number thread (reply.Given job) ∷ finish_entry number thread job came ∷ []))

-- a worker: by the pass tasks were taken and finished, and at last it was told that all has ended
pub record WorksOut (cell : CellView State) (outcome : JobRecord → Outcome) (old new : Pass) : Type 0 where
  pub tasks : History
  pub worked : Worked outcome old.seat.number old.who tasks
  pub entered : Entered cell (tasks ++ (take_entry old.seat.number old.who reply.Ended ∷ [])) old new
