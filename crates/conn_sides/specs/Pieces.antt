-- What becomes of one read's bytes.
use Rattle.std.specs.Prelude.{◌≡◌, ℕ, List, Option, Some, None}
use Rattle.turn_cell.specs.Seats.{CellView}
use Rattle.lane_machine.specs.Histories.{History}
use Rattle.lane_machine.specs.State.{State}
use Rattle.lane_machine.specs.declared.call.LaneCall.{LaneCall}
use Rattle.heard_calls.specs.declared.ending.Ending.{Ending}
use Rattle.conn_engine.specs.Hearers.{Hearer, FeedsOn}
use Rattle.conn_engine.specs.declared.read_end.ReadEnd.TheVariants as read
use Rattle.lane_pool.specs.Pass.{Pass}
use Rattle.lane_pool.specs.Turns.{Reads, Listens, heard_by}
use Rattle.conn_sides.specs.Entering.{Entered}
use Rattle.conn_sides.specs.ReadSides.{MadeAll, MadeUpToClosing}
use Rattle.conn_sides.specs.declared.calling.Called.{Called}
use Rattle.conn_sides.specs.declared.calling.Called.TheVariants as called
use Rattle.conn_sides.specs.declared.read_side_end.ReadSideEnd.{ReadSideEnd}
use Rattle.conn_sides.specs.declared.read_side_end.ReadSideEnd.TheVariants as side

-- how the reading side came out with a piece, if it did
abbrev pub out_of : Called → Option Ending → Option ReadSideEnd
out_of called.Closing ending = Some side.RunClosed
out_of called.Heard (Some ending) = Some (side.Read (read.Ended ending))
out_of called.Heard None = None

-- one piece more was heard, with this ending, and all its calls were made
pub record MadePiece (cell : CellView State) (h h' : Hearer) (piece : List ℕ) (ending : Option Ending) (old new : Pass) : Type 0 where
  pub calls : List LaneCall
  pub feeds : FeedsOn h h' piece calls ending
  pub entries : History
  pub made : MadeAll calls entries
  pub entered : Entered cell entries old new

-- one piece more was heard, and its calls were made up to one that was answered Closing
pub record ClosedPiece (cell : CellView State) (h h' : Hearer) (piece : List ℕ) (old new : Pass) : Type 0 where
  pub calls : List LaneCall
  pub ending : Option Ending
  pub feeds : FeedsOn h h' piece calls ending
  pub entries : History
  pub made : MadeUpToClosing calls entries
  pub entered : Entered cell entries old new

-- what became of a piece: the reading goes on, or the side came out so
abbrev pub HearsPiece : Option ReadSideEnd → CellView State → Hearer → Hearer → List ℕ → Pass → Pass → Type 0
HearsPiece None cell h h' piece old new =
    MadePiece cell h h' piece None old new × Listens cell new × (heard_by new ≡ h'.made)
HearsPiece (Some (side.Read (read.Ended ending))) cell h h' piece old new =
    MadePiece cell h h' piece (Some ending) old new × Reads cell new
HearsPiece (Some (side.Read read.Spent)) cell h h' piece old new = ⊥
HearsPiece (Some (side.Read read.ReadFault)) cell h h' piece old new = ⊥
HearsPiece (Some side.RunClosed) cell h h' piece old new = ClosedPiece cell h h' piece old new × Reads cell new
HearsPiece (Some side.NoMemory) cell h h' piece old new = (new ≡ old)
