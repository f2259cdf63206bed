-- What the calls of a pool do to its passes.
use Rattle.std.specs.Prelude.{◌≡◌, ℕ, ◌+◌, List, [], ◌∷◌, length}
use Rattle.turn_cell.specs.Seats.{CellView}
use Rattle.turn_cell.specs.Calls.{IsOf, Calls, IsSplit, IsJoined}
use Rattle.orb_base.specs.Pool.{Pool}
use Rattle.thread_borrowing.specs.ThreadList.{pool_threads}
use Rattle.lane_machine.specs.State.{State, Opens, opening}
use Rattle.lane_machine.specs.Machine.{step}
use Rattle.lane_machine.specs.Readiness.{is_ready, IsSound}
use Rattle.lane_machine.specs.Callers.{heir, IsFit, writer_seat}
use Rattle.lane_machine.specs.declared.call.LaneCall.{LaneCall}
use Rattle.lane_machine.specs.declared.call.LaneReply.{LaneReply}
use Rattle.lane_pool.specs.Pass.{Pass, Sitting, conn_of}

-- the pass is one of this pool
abbrev pub IsIn : CellView State → Pass → Type 0
IsIn cell pass = IsOf cell pass.seat

-- the pass's seat may make the call now, by the opening of the pool and its own calls so far
abbrev pub MayMake : CellView State → LaneCall → Pass → Type 0
MayMake cell call pass = IsFit cell.terms.opening pass.seat.number pass.seat.mine call

-- the call was entered once, under the pass's number, and got the machine's reply; what the pass had seen before is in
-- prefix of it, and what it sees now is a legal history in which every call was fit
abbrev pub Makes : CellView State → LaneCall → LaneReply → Pass → Pass → Type 0
Makes cell call reply old new =
    (new.who ≡ old.who) × (new.nth ≡ old.nth) × Calls is_ready IsSound step Opens IsFit cell call reply old.seat new.seat

-- a pass by which nothing was called
pub record IsFresh (cell : CellView State) (number who : ℕ) (pass : Pass) : Type 0 where
  pub in_cell : IsIn cell pass
  pub who_is : pass.who ≡ who
  pub nth_is : pass.nth ≡ 0
  pub number_is : pass.seat.number ≡ number
  pub unused : pass.seat.mine ≡ []
  pub unsplit : pass.seat.splits ≡ 0
  pub alone : pass.seat.ended ≡ []

-- passes by which nothing was called, in order, with the numbers from `first` on
abbrev pub AreFrom : CellView State → ℕ → ℕ → List Pass → Type 0
AreFrom cell first who [] = Unit {0}
AreFrom cell first who (p ∷ ps) = IsFresh cell (first + who) who p × AreFrom cell first (who + 1) ps

-- the first seat of a pool, from which k seats were split and to which none was given back
pub record MainAt (cell : CellView State) (k : ℕ) (main : Sitting) : Type 0 where
  pub in_cell : IsOf cell main
  pub number_is : main.number ≡ 0
  pub splits_is : main.splits ≡ k
  pub alone : main.ended ≡ []

-- a pool was opened, with a pass for each slot and one for each thread
pub record IsOpen (pool : Pool) (slots per_slot : ℕ) (cell : CellView State) (root : Sitting) (readers workers : List Pass) : Type 0 where
  pub opened : cell.terms.opening ≡ opening pool slots per_slot
  pub main : MainAt cell (slots + length (pool_threads 0 pool.lanes)) root
  pub all_slots : length readers ≡ slots
  pub slots_are : AreFrom cell 1 0 readers
  pub all_workers : length workers ≡ length (pool_threads 0 pool.lanes)
  pub workers_are : AreFrom cell (slots + 1) 0 workers

-- the next connection of a slot: the reading side has the slot's seat, and the writing side a seat that is split from it
pub record IsLinked (old reader writer : Pass) : Type 0 where
  pub reader_who : reader.who ≡ old.who
  pub reader_nth : reader.nth ≡ old.nth
  pub writer_who : writer.who ≡ old.who
  pub writer_nth : writer.nth ≡ old.nth
  pub seats : IsSplit heir old.seat reader.seat writer.seat
  pub writes : writer.seat.number ≡ writer_seat (conn_of old)

-- the connection is over: the slot has its pass back, which knows the writing side's calls
pub record IsUnlinked (reader writer new : Pass) : Type 0 where
  pub who_is : new.who ≡ reader.who
  pub nth_is : new.nth ≡ reader.nth + 1
  pub seats : IsJoined reader.seat writer.seat new.seat
