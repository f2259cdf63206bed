-- What was called by one pass: own profile.
use Rattle.std.specs.Prelude.{◌≡◌, ℕ, Bool, List, ◌++◌, map}
use Rattle.std.specs.List.{list_any}
use Rattle.turn_cell.specs.declared.entry.Entry.{Entry}
use Rattle.turn_cell.specs.History.{StartsWith}
use Rattle.turn_cell.specs.Seats.{CellView}
use Rattle.lane_machine.specs.Callers.{is_closing}
use Rattle.lane_machine.specs.Histories.{History}
use Rattle.lane_machine.specs.State.{State}
use Rattle.lane_machine.specs.declared.call.LaneCall.{LaneCall}
use Rattle.lane_machine.specs.declared.call.LaneReply.{LaneReply}
use Rattle.lane_pool.specs.Pass.{Pass}
use Rattle.lane_pool.specs.Returned.{IsSame}

-- an entry of the machine's history
abbrev pub entry : ℕ → LaneCall → LaneReply → Entry State LaneCall LaneReply
entry n call reply = record { caller = n; call = call; reply = reply }

-- the calls of entries, whatever was replied
abbrev pub calls_of : History → List LaneCall
calls_of entries = map (λ (e : Entry State LaneCall LaneReply). e.call) entries

-- one of these calls was answered Closing
abbrev pub met_closing : History → Bool
met_closing entries = list_any (λ e. is_closing e.reply) entries

-- by the same pass these calls were made, each once and in this order, after those that it had made; it has seen no less
pub record Entered (cell : CellView State) (entries : History) (old new : Pass) : Type 0 where
  pub same : IsSame cell old new
  pub mine : new.seat.mine ≡ old.seat.mine ++ entries
  pub later : StartsWith new.seat.seen old.seat.seen
