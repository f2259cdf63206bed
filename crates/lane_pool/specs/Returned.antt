-- Passes on their way back to the one who closes their pool.
use Rattle.std.specs.Prelude.{◌≡◌, ℕ, zero, suc, ◌+◌, List, [], ◌∷◌, ◌++◌, map}
use Rattle.turn_cell.specs.Seats.{CellView}
use Rattle.lane_machine.specs.State.{State}
use Rattle.lane_machine.specs.Callers.{slot_seat, writer_seat}
use Rattle.lane_pool.specs.Pass.{Pass, Leaving}
use Rattle.lane_pool.specs.Passes.{IsIn}
use Rattle.lane_pool.specs.Turns.{Rests, CanTake}

-- the same pass, by which more may have been called
pub record IsSame (cell : CellView State) (old new : Pass) : Type 0 where
  pub in_cell : IsIn cell new
  pub who : new.who ≡ old.who
  pub nth : new.nth ≡ old.nth
  pub number : new.seat.number ≡ old.seat.number
  pub splits : new.seat.splits ≡ old.seat.splits
  pub ended : new.seat.ended ≡ old.seat.ended

-- the numbers of seats that were joined, each beside its splits
abbrev pub pairs : List Leaving → List (ℕ × ℕ)
pairs left = map {B = ℕ × ℕ} (λ (d : Leaving). (d.number, d.splits)) left

-- the writing sides of a slot's first n connections, from which no seat was split
abbrev pub writers : ℕ → ℕ → List (ℕ × ℕ)
writers slot zero = []
writers slot (suc n) = writers slot n ++ (writer_seat (record { slot = slot; nth = n }), 0) ∷ []

-- the slot's pass, with the writing sides of all its connections
pub record IsHome (cell : CellView State) (slot : ℕ) (pass : Pass) : Type 0 where
  pub in_cell : IsIn cell pass
  pub who : pass.who ≡ slot
  pub number : pass.seat.number ≡ slot_seat slot
  pub splits : pass.seat.splits ≡ pass.nth
  pub joined : pairs pass.seat.ended ≡ writers slot pass.nth

-- the pass of this number, from which no seat was split
pub record IsAlone (cell : CellView State) (number : ℕ) (pass : Pass) : Type 0 where
  pub in_cell : IsIn cell pass
  pub number_is : pass.seat.number ≡ number
  pub unsplit : pass.seat.splits ≡ 0
  pub alone : pass.seat.ended ≡ []

-- the passes of the slots from this one on
abbrev pub AllHome : CellView State → ℕ → List Pass → Type 0
AllHome cell slot [] = Unit {0}
AllHome cell slot (p ∷ ps) = IsHome cell slot p × AllHome cell (slot + 1) ps

-- passes with the numbers from this one on
abbrev pub AllAlone : CellView State → ℕ → List Pass → Type 0
AllAlone cell number [] = Unit {0}
AllAlone cell number (p ∷ ps) = IsAlone cell number p × AllAlone cell (number + 1) ps

-- a slot's pass before its first connection
abbrev pub IsSlotOut : CellView State → ℕ → Pass → Type 0
IsSlotOut cell slot pass = Rests cell pass × (pass.nth ≡ 0) × IsHome cell slot pass

-- the passes of the slots from this one on, each before its first connection
abbrev pub AllSlotsOut : CellView State → ℕ → List Pass → Type 0
AllSlotsOut cell slot [] = Unit {0}
AllSlotsOut cell slot (p ∷ ps) = IsSlotOut cell slot p × AllSlotsOut cell (slot + 1) ps

-- a worker's pass of this number that may take
abbrev pub IsWorkerOut : CellView State → ℕ → Pass → Type 0
IsWorkerOut cell number pass = CanTake cell pass × IsAlone cell number pass

-- workers' passes with the numbers from this one on, each of which may take
abbrev pub AllWorkersOut : CellView State → ℕ → List Pass → Type 0
AllWorkersOut cell number [] = Unit {0}
AllWorkersOut cell number (p ∷ ps) = IsWorkerOut cell number p × AllWorkersOut cell (number + 1) ps
