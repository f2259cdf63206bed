-- Seats of a register's cell that call side by side and are joined in order, for the tests.
use Rattle.std.specs.Prelude.{◌≡◌, ℕ, zero, suc, List, [], ◌∷◌, ◌++◌}
use Rattle.turn_cell.specs.Seats.{SeatView}

-- the same seat, which may have called and seen more
abbrev pub IsSame : {O C R : Type 0} → SeatView O C R → SeatView O C R → Type 0
IsSame old new = (new.cell ≡ old.cell) × (new.terms ≡ old.terms) × (new.number ≡ old.number) × (new.splits ≡ old.splits)
    × (new.ended ≡ old.ended)

-- the numbers of the first seat, which split seven, and of its heirs up to one that were joined, each beside its splits
abbrev pub team : ℕ → List (ℕ × ℕ)
team zero = (0, 7) ∷ []
team (suc k) = team k ++ (suc k, 0) ∷ []
