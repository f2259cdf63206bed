-- Calls by the pass of a reading side.
use Rattle.std.specs.Prelude.{◌≡◌, ℕ, Bool, true, false, List, ◌+◌, length}
use Rattle.turn_cell.specs.Seats.{CellView}
use Rattle.lane_machine.specs.Callers.{is_closing}
use Rattle.lane_machine.specs.Histories.{History}
use Rattle.lane_machine.specs.State.{State}
use Rattle.lane_machine.specs.declared.call.LaneCall.{LaneCall}
use Rattle.lane_machine.specs.declared.call.LaneReply.{LaneReply}
use Rattle.lane_pool.specs.Pass.{Pass}
use Rattle.lane_pool.specs.Passes.{Makes}
use Rattle.lane_pool.specs.Turns.{Reads, Listens, heard_by}
use Rattle.conn_sides.specs.Entering.{Entered}
use Rattle.conn_sides.specs.ReadSides.{MadeAll, MadeUpToClosing}
use Rattle.conn_sides.specs.declared.calling.Called.{Called}
use Rattle.conn_sides.specs.declared.calling.Called.TheVariants as called

-- a limit of the run was met
abbrev pub is_shut : Called → Bool
is_shut called.Heard = false
is_shut called.Closing = true

-- one call was made, and answered Closing or not
pub record MakesOne (cell : CellView State) (call : LaneCall) (closing : Bool) (old new : Pass) : Type 0 where
  pub reply : LaneReply
  pub makes : Makes cell call reply old new
  pub closes : is_closing reply ≡ closing

-- all of the calls were made and more may come; or they were made up to one that was answered Closing
abbrev pub MadeBy : CellView State → List LaneCall → History → Bool → Pass → Pass → Type 0
MadeBy cell calls entries false old new = MadeAll calls entries × Listens cell new × (heard_by new ≡ heard_by old + length calls)
MadeBy cell calls entries true old new = MadeUpToClosing calls entries × Reads cell new

-- what was made of some calls
pub record CallsAll (cell : CellView State) (calls : List LaneCall) (closing : Bool) (old new : Pass) : Type 0 where
  pub entries : History
  pub made : MadeBy cell calls entries closing old new
  pub entered : Entered cell entries old new
