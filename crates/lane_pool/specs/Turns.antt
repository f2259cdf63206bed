-- What may be called by a pass next: by its own calls so far, and by how its pool was opened.
use Rattle.std.specs.Prelude.{◌≡◌, ◌≤◌, ◌<◌, ◌+◌, ℕ, Bool, true, false, List, [], ◌∷◌, length, Some, None, slice_get}
use Rattle.turn_cell.specs.Seats.{CellView}
use Rattle.orb_base.specs.declared.job.Job.{Job}
use Rattle.lane_machine.specs.State.{State}
use Rattle.lane_machine.specs.Readiness.{HasLane}
use Rattle.lane_machine.specs.Callers.{slot_seat, worker_seat, writer_seat, ends, has_leave, heard_calls, was_closed, latest, may_take, may_collect}
use Rattle.lane_machine.specs.Histories.{History}
use Rattle.lane_machine.specs.declared.call.LaneReply.TheVariants as reply
use Rattle.lane_pool.specs.declared.answers.Taken.{Taken}
use Rattle.lane_pool.specs.declared.answers.Taken.TheVariants as taken
use Rattle.lane_pool.specs.declared.answers.Collected.{Collected}
use Rattle.lane_pool.specs.declared.answers.Collected.TheVariants as collected
use Rattle.lane_pool.specs.Pass.{Pass, conn_of}
use Rattle.lane_pool.specs.Passes.{IsIn}

-- no call was made of a slot's connections from this one on
abbrev pub NoneHeard : ℕ → ℕ → History → Type 0
NoneHeard slot first mine = (k : ℕ) → first ≤ k → heard_calls (record { slot = slot; nth = k }) mine ≡ 0

-- how many calls were made of the pass's connection
abbrev pub heard_by : Pass → ℕ
heard_by pass = heard_calls (conn_of pass) pass.seat.mine

-- the pass is that of a slot which ended so many connections, did not leave, and made no call of a connection from `first` on
pub record IsServing (cell : CellView State) (ended first : ℕ) (pass : Pass) : Type 0 where
  pub in_cell : IsIn cell pass
  pub number : pass.seat.number ≡ slot_seat pass.who
  pub slot : pass.who < cell.terms.opening.slots
  pub ends_are : ended ≡ ends pass.seat.mine
  pub stays : has_leave pass.seat.mine ≡ false
  pub later : NoneHeard pass.who first pass.seat.mine

-- the pass's connection is read
pub record Reads (cell : CellView State) (pass : Pass) : Type 0 where
  pub serves : IsServing cell pass.nth (pass.nth + 1) pass
  pub nth : pass.nth < cell.terms.opening.per_slot

-- the pass's connection is read, and no call of it was answered Closing
pub record Listens (cell : CellView State) (pass : Pass) : Type 0 where
  pub reads : Reads cell pass
  pub is_open : was_closed (conn_of pass) pass.seat.mine ≡ false

-- the pass's connection has ended
abbrev pub HasEnded : CellView State → Pass → Type 0
HasEnded cell pass = IsServing cell (pass.nth + 1) (pass.nth + 1) pass

-- the pass's slot is between two connections
abbrev pub Rests : CellView State → Pass → Type 0
Rests cell pass = IsServing cell pass.nth pass.nth pass

-- one more call of the connection was made, and unless it was answered Closing more may come
pub record GoesOn (cell : CellView State) (closing : Bool) (old new : Pass) : Type 0 where
  pub reads : Reads cell new
  pub heard : heard_by new ≡ heard_by old + 1
  pub is_open : closing ≡ false → was_closed (conn_of new) new.seat.mine ≡ false

-- the request's lane is one of the pool's, and with lanes it has the request's priority
abbrev pub FitsLane : CellView State → Job → Type 0
FitsLane cell job = HasLane cell.terms.opening.pool.laned job (slice_get cell.terms.opening.pool.lanes job.lane)

-- each request of the first lane fits it
abbrev pub FitsFirst : CellView State → Type 0
FitsFirst cell = (job : Job) → job.lane ≡ 0 → FitsLane cell job

-- the pass is that of a worker
pub record Works (cell : CellView State) (pass : Pass) : Type 0 where
  pub in_cell : IsIn cell pass
  pub number : pass.seat.number ≡ worker_seat cell.terms.opening.slots pass.who
  pub thread : pass.who < length cell.terms.opening.threads

-- that has no task in hand, and was not told that all has ended
pub record CanTake (cell : CellView State) (pass : Pass) : Type 0 where
  pub works : Works cell pass
  pub idle : may_take (latest None pass.seat.mine) ≡ true

-- that has this task in hand
pub record Carries (cell : CellView State) (job : Job) (pass : Pass) : Type 0 where
  pub works : Works cell pass
  pub task : latest None pass.seat.mine ≡ Some (reply.Given job)

-- the pass is that of a writing side that was not told that nothing comes any more
pub record Writes (cell : CellView State) (pass : Pass) : Type 0 where
  pub in_cell : IsIn cell pass
  pub number : pass.seat.number ≡ writer_seat (conn_of pass)
  pub slot : pass.who < cell.terms.opening.slots
  pub nth : pass.nth < cell.terms.opening.per_slot
  pub more : may_collect (latest None pass.seat.mine) ≡ true

-- a worker has the task that it was answered in hand
abbrev pub HasTaken : CellView State → Taken → Pass → Type 0
HasTaken cell (taken.Job job) pass = Carries cell job pass
HasTaken cell taken.Ended pass = Unit {0}

-- after a message more may come
abbrev pub HasCollected : CellView State → Collected → Pass → Type 0
HasCollected cell (collected.Item item) pass = Writes cell pass
HasCollected cell collected.Close pass = Unit {0}
HasCollected cell collected.Error pass = Unit {0}
HasCollected cell collected.Done pass = Unit {0}

-- the passes of the slots from this one on, each before its first connection
abbrev pub AllRest : CellView State → ℕ → List Pass → Type 0
AllRest cell who [] = Unit {0}
AllRest cell who (p ∷ ps) = (Rests cell p × (p.who ≡ who) × (p.nth ≡ 0)) × AllRest cell (who + 1) ps

-- the passes of the workers from this one on, each before its first task
abbrev pub AllIdle : CellView State → ℕ → List Pass → Type 0
AllIdle cell who [] = Unit {0}
AllIdle cell who (p ∷ ps) = (CanTake cell p × (p.who ≡ who)) × AllIdle cell (who + 1) ps
