-- What contracts see of a shared link and of its seats.
use Rattle.turn_cell.specs.Seats.{CellView, SeatView}
use Rattle.client_mux.specs.Machine.{Mux}
use Rattle.client_mux.specs.declared.call.MuxCall.{MuxCall}
use Rattle.client_mux.specs.declared.call.MuxReply.{MuxReply}

-- a seat at the link machine
abbrev pub Sitting : Type 0
Sitting = SeatView Mux MuxCall MuxReply

-- a link: the cell of its machine
pub record Link : Type 0 where
  pub cell : CellView Mux
