-- What the calls of a shared link do to its seats.
use Rattle.std.specs.Prelude.{◌≡◌, ℕ, ◌+◌, List, [], ◌∷◌, length}
use Rattle.turn_cell.specs.Seats.{CellView}
use Rattle.turn_cell.specs.Calls.{IsOf, Calls}
use Rattle.client_mux.specs.declared.call.MuxCall.{MuxCall}
use Rattle.client_mux.specs.declared.call.MuxReply.{MuxReply}
use Rattle.client_mux.specs.Machine.{Mux, step, is_ready, IsSound, Opens, opening}
use Rattle.client_mux.specs.Callers.{IsFit}
use Rattle.shared_link.specs.Link.{Sitting}

-- the seat is one of this link
abbrev pub IsIn : CellView Mux → Sitting → Type 0
IsIn cell seat = IsOf cell seat

-- the seat may make the call now, by the opening of the link and its own calls so far
abbrev pub MayMake : CellView Mux → MuxCall → Sitting → Type 0
MayMake cell call seat = IsFit cell.terms.opening seat.number seat.mine call

-- the call was entered once, under the seat's number, and got the machine's reply; what the seat had seen before is a prefix of
-- what it sees now, and that is a legal history in which every call was fit
abbrev pub Makes : CellView Mux → MuxCall → MuxReply → Sitting → Sitting → Type 0
Makes cell call reply old new = Calls is_ready IsSound step Opens IsFit cell call reply old new

-- a seat by which nothing was called
pub record IsFresh (cell : CellView Mux) (number : ℕ) (seat : Sitting) : Type 0 where
  pub in_cell : IsIn cell seat
  pub number_is : seat.number ≡ number
  pub unused : seat.mine ≡ []
  pub unsplit : seat.splits ≡ 0
  pub alone : seat.ended ≡ []

-- seats by which nothing was called, in order, with the numbers from this one on
abbrev pub AreFrom : CellView Mux → ℕ → List Sitting → Type 0
AreFrom cell first [] = Unit {0}
AreFrom cell first (s ∷ ss) = IsFresh cell first s × AreFrom cell (first + 1) ss

-- the first seat of a link, from which k seats were split and to which none was given back
pub record MainAt (cell : CellView Mux) (k : ℕ) (main : Sitting) : Type 0 where
  pub in_cell : IsIn cell main
  pub number_is : main.number ≡ 0
  pub splits_is : main.splits ≡ k
  pub alone : main.ended ≡ []

-- a link was opened for so many callers, with their seats, the writer's and the reader's
pub record IsOpen (callers : ℕ) (cell : CellView Mux) (root : Sitting) (seats : List Sitting) : Type 0 where
  pub opened : cell.terms.opening ≡ opening callers
  pub main : MainAt cell (callers + 2) root
  pub all : length seats ≡ callers + 2
  pub seats_are : AreFrom cell 1 seats
