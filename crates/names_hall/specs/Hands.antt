-- What contracts see of a slot's hand at the map of a name service.
use Rattle.std.specs.Prelude.{ℕ, List}
use Rattle.orb_base.specs.declared.answer.Answer.{Answer}
use Rattle.turn_cell.specs.Seats.{CellView, SeatView}
use Rattle.turn_cell.specs.declared.board.Gone.{Gone}
use Rattle.halls.specs.Hands.{HandState}
use Rattle.name_map.specs.declared.binding.Binding.{Binding}
use Rattle.name_map.specs.declared.call.NamesCall.{NamesCall}
use Rattle.name_map.specs.declared.call.NamesReply.{NamesReply}

-- the cell of a map
abbrev pub Cell : Type 0
Cell = CellView (List Binding)

-- a seat at a map
abbrev pub Sitting : Type 0
Sitting = SeatView (List Binding) NamesCall NamesReply

-- what stays known of a seat that was joined into another
abbrev pub Leaving : Type 0
Leaving = Gone (List Binding) NamesCall NamesReply

-- a hand: its seat, the number of its slot, the invocations that were made by it with their outcomes, in order, and how many it may make
-- yet
pub record Hand : Type 0 where
  pub seat : Sitting
  pub slot : ℕ
  pub done : List Answer
  pub spare : ℕ

-- the hand as halls see it
abbrev pub held : Hand → HandState
held hand = record { slot = hand.slot; done = hand.done; spare = hand.spare }
