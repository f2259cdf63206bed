-- What the reading side of a connection calls: own profile.
use Rattle.std.specs.Prelude.{◌≡◌, ℕ, Bool, true, false, List, [], ◌∷◌, ◌++◌, Option, None}
use Rattle.turn_cell.specs.declared.entry.Entry.{Entry}
use Rattle.turn_cell.specs.Seats.{CellView}
use Rattle.orb_base.specs.Outside.{SourceState, Rose}
use Rattle.orb_base.specs.declared.conn_id.ConnId.{ConnId}
use Rattle.lane_machine.specs.Callers.{is_closing}
use Rattle.lane_machine.specs.Histories.{History}
use Rattle.lane_machine.specs.State.{State}
use Rattle.lane_machine.specs.declared.call.How.{How}
use Rattle.lane_machine.specs.declared.call.How.TheVariants.{Shut}
use Rattle.lane_machine.specs.declared.call.LaneCall.{LaneCall}
use Rattle.lane_machine.specs.declared.call.LaneCall.TheVariants.{End}
use Rattle.lane_machine.specs.declared.call.LaneReply.{LaneReply}
use Rattle.lane_machine.specs.declared.call.LaneReply.TheVariants as reply
use Rattle.adapter_policies.specs.SetupData.{SetupData}
use Rattle.heard_calls.specs.declared.ending.Ending.{Ending}
use Rattle.conn_engine.specs.HeardSoFar.{HeardSoFar}
use Rattle.conn_engine.specs.Ends.{HearsStream, how_of}
use Rattle.conn_engine.specs.Reads.{Takes}
use Rattle.conn_engine.specs.declared.read_end.ReadEnd.{ReadEnd}
use Rattle.conn_engine.specs.declared.read_end.ReadEnd.TheVariants as read
use Rattle.lane_pool.specs.Pass.{Pass, conn_of}
use Rattle.conn_sides.specs.Entering.{entry, calls_of, met_closing, Entered}
use Rattle.conn_sides.specs.declared.read_side_end.ReadSideEnd.{ReadSideEnd}
use Rattle.conn_sides.specs.declared.read_side_end.ReadSideEnd.TheVariants as side

-- all of the calls were made, in order, and none was answered Closing
pub record MadeAll (calls : List LaneCall) (entries : History) : Type 0 where
  pub calls_are : calls_of entries ≡ calls
  pub is_open : met_closing entries ≡ false

-- a prefix of the calls was made, in order: up to and including the first that was answered Closing
pub record MadeUpToClosing (calls : List LaneCall) (entries : History) : Type 0 where
  pub before : History
  pub last : Entry State LaneCall LaneReply
  pub rest : List LaneCall
  pub ends : entries ≡ before ++ (last ∷ [])
  pub parts : calls ≡ calls_of entries ++ rest
  pub is_open : met_closing before ≡ false
  pub closes : is_closing last.reply ≡ true

-- it was right to read on after the earlier bytes: nothing in them ended the reading, and all that they mean was called before
-- and not answered Closing
pub record WentOnBehind (setup : SetupData) (conn : ConnId) (earlier : List ℕ) (entries : History) : Type 0 where
  pub calls : List LaneCall
  pub heard : HeardSoFar setup conn earlier calls None
  pub first : History
  pub later : History
  pub parts : entries ≡ first ++ later
  pub made : MadeAll calls first

-- the bytes mean these calls, the reading came out so after them, and all of them were made
pub record HeardWhole (setup : SetupData) (conn : ConnId) (bytes : List ℕ) (ended : Bool) (end : ReadEnd) (entries : History) : Type 0 where
  pub calls : List LaneCall
  pub heard : HearsStream setup conn bytes ended calls end
  pub made : MadeAll calls entries

-- the bytes mean these calls, of which they were made up to one that was answered Closing
pub record HeardToClosing (setup : SetupData) (conn : ConnId) (bytes : List ℕ) (entries : History) : Type 0 where
  pub calls : List LaneCall
  pub ending : Option Ending
  pub heard : HeardSoFar setup conn bytes calls ending
  pub made : MadeUpToClosing calls entries

-- the earlier bytes, which ended nothing, mean these calls, and all of them were made
pub record HeardEarlier (setup : SetupData) (conn : ConnId) (earlier : List ℕ) (entries : History) : Type 0 where
  pub calls : List LaneCall
  pub heard : HeardSoFar setup conn earlier calls None
  pub made : MadeAll calls entries

-- the count of faults rose where a read failed, and else it stays
abbrev pub FaultsBy : ReadEnd → SourceState → SourceState → Type 0
FaultsBy (read.Ended ending) from to = to.faults ≡ from.faults
FaultsBy read.Spent from to = to.faults ≡ from.faults
FaultsBy read.ReadFault from to = Rose from.faults to.faults

-- what of the bytes was called, by how the reading side came out: all that they mean; or that up to a call that was answered
-- Closing; or when out of memory what those before the last read mean
abbrev pub HearsBy : ReadSideEnd → SetupData → ConnId → List ℕ → List ℕ → Bool → History → SourceState → SourceState → Type 0
HearsBy (side.Read end) setup conn earlier bytes ended entries from to =
    HeardWhole setup conn bytes ended end entries × FaultsBy end from to
HearsBy side.RunClosed setup conn earlier bytes ended entries from to =
    HeardToClosing setup conn bytes entries × (ended ≡ false) × (to.faults ≡ from.faults)
HearsBy side.NoMemory setup conn earlier bytes ended entries from to =
    HeardEarlier setup conn earlier entries × (ended ≡ false) × (to.faults ≡ from.faults)

-- some bytes were taken, those of the last read after the earlier ones, and by the pass the calls were made that they mean
pub record HearsReads (cell : CellView State) (setup : SetupData) (end : ReadSideEnd) (old new : Pass) (from to : SourceState) : Type 0 where
  pub bytes : List ℕ
  pub earlier : List ℕ
  pub ended : Bool
  pub takes : Takes from to earlier bytes ended
  pub entries : History
  pub hears : HearsBy end setup (conn_of old) earlier bytes ended entries from to
  pub before : WentOnBehind setup (conn_of old) earlier entries
  pub entered : Entered cell entries old new

-- how the connection is ended
abbrev pub how_by : ReadSideEnd → How
how_by (side.Read end) = how_of end
how_by side.RunClosed = Shut
how_by side.NoMemory = Shut

-- the End of the pass's connection
abbrev pub end_entry : Pass → How → Entry State LaneCall LaneReply
end_entry pass how = entry pass.seat.number (End (conn_of pass) how) reply.Noted

-- the reading side of a connection: some bytes were taken, those of the last read after the earlier ones; the calls that they mean
-- were made by the pass, in order, and then the connection's End
pub record ReadsSide (cell : CellView State) (setup : SetupData) (end : ReadSideEnd) (old new : Pass) (from to : SourceState) : Type 0 where
  pub bytes : List ℕ
  pub earlier : List ℕ
  pub ended : Bool
  pub takes : Takes from to earlier bytes ended
  pub entries : History
  pub hears : HearsBy end setup (conn_of old) earlier bytes ended entries from to
  pub before : WentOnBehind setup (conn_of old) earlier entries
  pub entered : Entered cell (entries ++ (end_entry old (how_by end) ∷ [])) old new
