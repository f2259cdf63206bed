-- How a shared link is closed.
use Rattle.std.specs.Prelude.{◌≡◌, ℕ, ◌+◌, List, [], ◌∷◌, ◌++◌}
use Rattle.turn_cell.specs.Calls.{IsOf, gone}
use Rattle.turn_cell.specs.Seats.{CellView}
use Rattle.turn_cell.specs.declared.board.Gone.{Gone}
use Rattle.client_mux.specs.declared.call.MuxCall.{MuxCall}
use Rattle.client_mux.specs.declared.call.MuxReply.{MuxReply}
use Rattle.client_mux.specs.Machine.{Mux, History, Opens}
use Rattle.client_mux.specs.Callers.{of}
use Rattle.client_mux.specs.Exchange.{IsLegal, AreFit}
use Rattle.shared_link.specs.Link.{Sitting}
use Rattle.shared_link.specs.Turns.{IsIn}

-- a seat of this number that came back: none was split from it, and none was given to it
pub record IsBack (cell : CellView Mux) (number : ℕ) (seat : Sitting) : Type 0 where
  pub in_cell : IsIn cell seat
  pub number_is : seat.number ≡ number
  pub unsplit : seat.splits ≡ 0
  pub alone : seat.ended ≡ []

-- such seats, in order, with the numbers from this one on
abbrev pub AreBack : CellView Mux → ℕ → List Sitting → Type 0
AreBack cell first [] = Unit {0}
AreBack cell first (s ∷ ss) = IsBack cell first s × AreBack cell (first + 1) ss

-- the calls of each seat are the entries of its number
abbrev pub AreOf : History → List Sitting → Type 0
AreOf h [] = Unit {0}
AreOf h (s ∷ ss) = (s.mine ≡ of s.number h) × AreOf h ss

-- the one history of a link: legal and fit, and each seat's calls are those of its number
pub record IsHistory (cell : CellView Mux) (seats : List Sitting) (h : History) : Type 0 where
  pub opens : Opens cell.terms.opening
  pub legal : IsLegal cell.terms.opening h
  pub fit : AreFit cell.terms.opening h
  pub calls : AreOf h seats

-- the seats are all of this link
abbrev pub AreIn : CellView Mux → List Sitting → Type 0
AreIn cell [] = Unit {0}
AreIn cell (s ∷ ss) = IsIn cell s × AreIn cell ss

-- what a seat leaves that was joined into another
abbrev pub Leaving : Type 0
Leaving = Gone Mux MuxCall MuxReply

-- what seats leave: their own calls, and those that were joined into them
abbrev pub left_by : List Sitting → List Leaving
left_by [] = []
left_by (s ∷ ss) = (gone s ∷ s.ended) ++ left_by ss

-- the seats were joined into the first one, in order
pub record TakesIn (cell : CellView Mux) (seats : List Sitting) (old new : Sitting) : Type 0 where
  pub in_cell : IsOf cell new
  pub number : new.number ≡ old.number
  pub splits : new.splits ≡ old.splits
  pub ended : new.ended ≡ old.ended ++ left_by seats
