-- How a pool ends.
use Rattle.std.specs.Prelude.{◌≡◌, ℕ, List, [], ◌∷◌, ◌++◌}
use Rattle.turn_cell.specs.Seats.{CellView}
use Rattle.turn_cell.specs.Calls.{IsOf, gone}
use Rattle.turn_cell.specs.History.{of, StartsWith}
use Rattle.turn_cell.specs.Good.{Good}
use Rattle.turn_cell.specs.Numbers.{Each, Has, IsWhole}
use Rattle.turn_cell.specs.Whole.{numbers}
use Rattle.lane_machine.specs.State.{State, Opens}
use Rattle.lane_machine.specs.Machine.{step}
use Rattle.lane_machine.specs.Readiness.{is_ready, IsSound}
use Rattle.lane_machine.specs.Callers.{heir, IsFit}
use Rattle.lane_machine.specs.Histories.{History}
use Rattle.lane_pool.specs.Pass.{Pass, Sitting, Leaving}
use Rattle.lane_pool.specs.Passes.{IsIn}

-- the passes are all of this pool
abbrev pub AreIn : CellView State → List Pass → Type 0
AreIn cell [] = Unit {0}
AreIn cell (p ∷ ps) = IsIn cell p × AreIn cell ps

-- what passes leave after: their own seats, and those that were joined into them
abbrev pub left_by : List Pass → List Leaving
left_by [] = []
left_by (p ∷ ps) = (gone p.seat ∷ p.seat.ended) ++ left_by ps

-- a history begins with what each of the passes had seen
abbrev pub AreSeen : History → List Pass → Type 0
AreSeen h [] = Unit {0}
AreSeen h (p ∷ ps) = StartsWith h p.seat.seen × AreSeen h ps

-- every seat of the pool came back: the first one's heirs, and the heirs of each that is here
abbrev pub AllBack : Sitting → List Leaving → Type 0
AllBack root left = IsWhole heir (numbers 0 root.splits left)

-- the one history of a pool: legal and fit, each caller's calls are the entries of its number, and no other number has any
pub record IsHistory (cell : CellView State) (root : Sitting) (left : List Leaving) (h : History) : Type 0 where
  pub good : Good is_ready IsSound step Opens IsFit cell.terms h
  pub calls : Each (λ (d : Leaving). d.calls ≡ of d.number h) left
  pub others : (i : ℕ) → (Has i (numbers 0 root.splits left) → ⊥) → of i h ≡ []

-- the passes' seats were joined into the first one, in order
pub record TakesIn (cell : CellView State) (passes : List Pass) (old new : Sitting) : Type 0 where
  pub in_cell : IsOf cell new
  pub number : new.number ≡ old.number
  pub splits : new.splits ≡ old.splits
  pub ended : new.ended ≡ old.ended ++ left_by passes
  pub seen : AreSeen new.seen passes
  pub later : StartsWith new.seen old.seen

-- the passes of slots and then those of workers were joined into the first one
abbrev pub TakesAll : CellView State → List Pass → List Pass → Sitting → Sitting → Type 0
TakesAll cell slots workers old new = (mid : Sitting) × TakesIn cell slots old mid × TakesIn cell workers mid new
