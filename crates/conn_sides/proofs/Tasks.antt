-- The tasks of a worker, one after another.
use Rattle.std.proofs.Common.{◌≡◌, ℕ, List, [], ◌∷◌, ◌++◌, refl, sym, ap, ◌∙◌, subst, append_assoc}
use Rattle.turn_cell.specs.declared.entry.Entry.{Entry}
use Rattle.turn_cell.specs.Seats.{CellView}
use Rattle.orb_base.specs.JobRecord.{JobRecord}
use Rattle.orb_base.specs.declared.answer.Answer.{Answer}
use Rattle.orb_base.specs.declared.outcome.Outcome.{Outcome}
use Rattle.lane_machine.specs.Histories.{History}
use Rattle.lane_machine.specs.State.{State}
use Rattle.lane_machine.specs.declared.call.LaneCall.{LaneCall}
use Rattle.lane_machine.specs.declared.call.LaneCall.TheVariants.{Take, Finish}
use Rattle.lane_machine.specs.declared.call.LaneReply.{LaneReply}
use Rattle.lane_machine.specs.declared.call.LaneReply.TheVariants as reply
use Rattle.lane_pool.specs.Pass.{Pass}
use Rattle.lane_pool.specs.Passes.{Makes}
use Rattle.lane_pool.specs.Turns.{CanTake, Carries}
use Rattle.conn_sides.specs.Entering.{entry, Entered}
use Rattle.conn_sides.specs.Working.{CarriesOut, Worked, WorksOut, take_entry, finish_entry}
use Rattle.conn_sides.specs.Working.Worked.{none, more}
use Rattle.conn_sides.proofs.Entering.{entered_none, entered_one, entered_then}

-- the answer to the task in hand
pub carries_answer : (cell : CellView State) (outcome : JobRecord → Outcome) (job : JobRecord) (answer : Answer) (pass : Pass) → Carries cell job pass → CarriesOut outcome job answer → Carries cell answer.job pass
carries_answer cell outcome job answer pass carries out = subst (λ (j : JobRecord). Carries cell j pass) (sym out.same_job) carries

-- tasks so far
pub record WorkedSoFar (cell : CellView State) (outcome : JobRecord → Outcome) (old new : Pass) : Type 0 where
  pub tasks : History
  pub worked : Worked outcome old.seat.number old.who tasks
  pub entered : Entered cell tasks old new
  pub idle : CanTake cell new

pub worked_start : (cell : CellView State) (outcome : JobRecord → Outcome) (a : Pass) → CanTake cell a → WorkedSoFar cell outcome a a
worked_start cell outcome a idle = record { tasks = []; worked = none; entered = entered_none cell a idle.works.in_cell; idle = idle }

-- the take and the finish of one task, by the pass that is the same
both_entered : (cell : CellView State) (job : JobRecord) (answer : Answer) (now mid new : Pass) → CanTake cell now → Makes cell (Take now.who) (reply.Given job) now mid → Carries cell job mid → answer.job ≡ job
    → Makes cell (Finish mid.who answer) reply.Finished mid new → Entered cell (take_entry now.seat.number now.who (reply.Given job) ∷ finish_entry now.seat.number now.who job answer.outcome ∷ []) now new
both_entered cell job answer now mid new idle m carries same f =
    let one : Entered cell (take_entry now.seat.number now.who (reply.Given job) ∷ []) now mid = entered_one cell (Take now.who) (reply.Given job) now mid idle.works.in_cell m in
    let two : Entered cell (entry mid.seat.number (Finish mid.who answer) reply.Finished ∷ []) mid new = entered_one cell (Finish mid.who answer) reply.Finished mid new carries.works.in_cell f in
    let is : entry mid.seat.number (Finish mid.who answer) reply.Finished ≡ finish_entry now.seat.number now.who job answer.outcome =
    λ i. record { caller = one.same.number i; call = Finish (one.same.who i) (record { job = same i; outcome = answer.outcome }); reply = reply.Finished } in
    entered_then cell (take_entry now.seat.number now.who (reply.Given job) ∷ []) (finish_entry now.seat.number now.who job answer.outcome ∷ []) now mid new one
    (subst (λ (e : Entry State LaneCall LaneReply). Entered cell (e ∷ []) mid new) is two)

pub worked_more : (cell : CellView State) (outcome : JobRecord → Outcome) (job : JobRecord) (answer : Answer) (old now mid new : Pass) → WorkedSoFar cell outcome old now → Makes cell (Take now.who) (reply.Given job) now mid
    → Carries cell job mid → CarriesOut outcome job answer → Makes cell (Finish mid.who answer) reply.Finished mid new → CanTake cell new → WorkedSoFar cell outcome old new
worked_more cell outcome job answer old now mid new x m carries out f idle =
    let number = x.entered.same.number in
    let who = x.entered.same.who in
    let both = both_entered cell job answer now mid new x.idle m carries out.same_job f in
    let own : Entered cell (take_entry old.seat.number old.who (reply.Given job) ∷ finish_entry old.seat.number old.who job answer.outcome ∷ []) now new =
    subst (λ (n : ℕ). Entered cell (take_entry n old.who (reply.Given job) ∷ finish_entry n old.who job answer.outcome ∷ []) now new) number
    (subst (λ (w : ℕ). Entered cell (take_entry now.seat.number w (reply.Given job) ∷ finish_entry now.seat.number w job answer.outcome ∷ []) now new) who both) in
    record {
      tasks = x.tasks ++ (take_entry old.seat.number old.who (reply.Given job) ∷ finish_entry old.seat.number old.who job answer.outcome ∷ []);
      worked = more x.tasks job answer.outcome x.worked out.came;
      entered = entered_then cell x.tasks (take_entry old.seat.number old.who (reply.Given job) ∷ finish_entry old.seat.number old.who job answer.outcome ∷ []) old now new x.entered own;
      idle = idle;
    }

pub worked_out : (cell : CellView State) (outcome : JobRecord → Outcome) (old now new : Pass) → WorkedSoFar cell outcome old now → Makes cell (Take now.who) reply.Ended now new → WorksOut cell outcome old new
worked_out cell outcome old now new x m =
    let one : Entered cell (take_entry now.seat.number now.who reply.Ended ∷ []) now new = entered_one cell (Take now.who) reply.Ended now new x.idle.works.in_cell m in
    let own : Entered cell (take_entry old.seat.number old.who reply.Ended ∷ []) now new =
    subst (λ (n : ℕ). Entered cell (take_entry n old.who reply.Ended ∷ []) now new) x.entered.same.number
    (subst (λ (w : ℕ). Entered cell (take_entry now.seat.number w reply.Ended ∷ []) now new) x.entered.same.who one) in
    record {
      tasks = x.tasks;
      worked = x.worked;
      entered = entered_then cell x.tasks (take_entry old.seat.number old.who reply.Ended ∷ []) old now new x.entered own;
    }
