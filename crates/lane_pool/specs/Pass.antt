-- What contracts see of a pool and of its passes.
use Rattle.std.specs.Prelude.{ℕ}
use Rattle.turn_cell.specs.Seats.{CellView, SeatView}
use Rattle.turn_cell.specs.declared.board.Gone.{Gone}
use Rattle.orb_base.specs.declared.conn_id.ConnId.{ConnId}
use Rattle.lane_machine.specs.State.{State}
use Rattle.lane_machine.specs.declared.call.LaneCall.{LaneCall}
use Rattle.lane_machine.specs.declared.call.LaneReply.{LaneReply}

-- a seat at the lane machine
abbrev pub Sitting : Type 0
Sitting = SeatView State LaneCall LaneReply

-- what stays known of a seat that was joined into another
abbrev pub Leaving : Type 0
Leaving = Gone State LaneCall LaneReply

-- a pool: the cell of its lane machine
pub record Pool : Type 0 where
  pub cell : CellView State

-- a pass: its seat, the number of its slot or thread, and that of its connection, or how many connections a slot had
pub record Pass : Type 0 where
  pub seat : Sitting
  pub who : ℕ
  pub nth : ℕ

-- the connection of a pass
abbrev pub conn_of : Pass → ConnId
conn_of pass = record { slot = pass.who; nth = pass.nth }
