-- What a seat may call, by its own calls so far.
use Rattle.std.specs.Prelude.{◌≡◌, ◌⊎◌, ℕ, true, false}
use Rattle.turn_cell.specs.Seats.{CellView}
use Rattle.client_mux.specs.Machine.{Mux}
use Rattle.client_mux.specs.Callers.{IsCaller, writer, reader, owns, has_cancel, has_await, was_dropped, starts, arrivals, losses, lefts, finished}
use Rattle.shared_link.specs.Link.{Sitting}
use Rattle.shared_link.specs.Turns.{IsIn}

-- a caller that has started so many calls and hasn't left
pub record CanCall (cell : CellView Mux) (k : ℕ) (seat : Sitting) : Type 0 where
  pub in_cell : IsIn cell seat
  pub caller : IsCaller cell.terms.opening seat.number
  pub stays : lefts seat.mine ≡ 0
  pub starts_are : starts seat.mine ≡ k

-- a call of this id that its caller may await
pub record CanAwait (id : ℕ) (seat : Sitting) : Type 0 where
  pub owned : owns id seat.mine ≡ true
  pub unawaited : has_await id seat.mine ≡ false
  pub kept : was_dropped id seat.mine ≡ false

-- one that it may cancel, too
abbrev pub CanCancel : ℕ → Sitting → Type 0
CanCancel id seat = CanAwait id seat × (has_cancel id seat.mine ≡ false)

-- the writer before it was answered that nothing is to be sent any more
pub record CanSend (cell : CellView Mux) (seat : Sitting) : Type 0 where
  pub in_cell : IsIn cell seat
  pub number_is : seat.number ≡ writer cell.terms.opening
  pub unfinished : finished seat.mine ≡ 0

-- the reader after so many replies
pub record CanRead (cell : CellView Mux) (k : ℕ) (seat : Sitting) : Type 0 where
  pub in_cell : IsIn cell seat
  pub number_is : seat.number ≡ reader cell.terms.opening
  pub arrivals_are : arrivals seat.mine ≡ k

-- the writer or the reader before it said that the link was lost
pub record CanLose (cell : CellView Mux) (seat : Sitting) : Type 0 where
  pub in_cell : IsIn cell seat
  pub side : (seat.number ≡ writer cell.terms.opening) ⊎ (seat.number ≡ reader cell.terms.opening)
  pub once : losses seat.mine ≡ 0
