-- What the writing side of a connection collects and writes: own profile.
use Rattle.std.specs.Prelude.{◌≡◌, ℕ, List, [], ◌∷◌, ◌++◌}
use Rattle.turn_cell.specs.declared.entry.Entry.{Entry}
use Rattle.turn_cell.specs.Seats.{CellView}
use Rattle.orb_base.specs.Outside.{SinkState}
use Rattle.orb_base.specs.declared.conn_id.ConnId.{ConnId}
use Rattle.orb_base.specs.declared.item.Item.{Item}
use Rattle.lane_machine.specs.Histories.{History}
use Rattle.lane_machine.specs.State.{State}
use Rattle.lane_machine.specs.declared.call.LaneCall.{LaneCall}
use Rattle.lane_machine.specs.declared.call.LaneCall.TheVariants.{Collect}
use Rattle.lane_machine.specs.declared.call.LaneReply.{LaneReply}
use Rattle.lane_machine.specs.declared.call.LaneReply.TheVariants as reply
use Rattle.text_streams.specs.Streams.{WritesAll}
use Rattle.text_streams.specs.declared.writing.WriteAll.{WriteAll}
use Rattle.text_streams.specs.declared.writing.WriteAll.TheVariants as all
use Rattle.pipe_laws.specs.Said.{said}
use Rattle.lane_pool.specs.Pass.{Pass, conn_of}
use Rattle.conn_sides.specs.Entering.{entry, Entered}
use Rattle.conn_sides.specs.declared.write_end.LastCollect.{LastCollect}
use Rattle.conn_sides.specs.declared.write_end.LastCollect.TheVariants as last
use Rattle.conn_sides.specs.declared.write_end.WriteEnd.{WriteEnd}
use Rattle.conn_sides.specs.declared.write_end.WriteEnd.TheVariants as write

-- each entry hands an item of the connection over
abbrev pub AreHandedOver : ℕ → ConnId → History → Type 0
AreHandedOver number conn [] = Unit {0}
AreHandedOver number conn (e ∷ es) =
    ((item : Item) × (e ≡ entry number (Collect conn) (reply.Handed item))) × AreHandedOver number conn es

-- the machine's reply by which nothing comes any more
abbrev pub last_reply : LastCollect → LaneReply
last_reply last.Done = reply.Done
last_reply last.Close = reply.Close
last_reply last.Error = reply.Error

-- the last collect, by how the writing side came out
abbrev pub last_of : WriteEnd → LastCollect
last_of write.Done = last.Done
last_of write.Closed = last.Close
last_of write.Error = last.Error
last_of (write.WriteFault answer) = answer

-- whether a write failed
abbrev pub course_of : WriteEnd → WriteAll
course_of write.Done = all.Whole
course_of write.Closed = all.Whole
course_of write.Error = all.Whole
course_of (write.WriteFault answer) = all.Failed

-- it came out so after this last collect, and no write failed
abbrev pub IsWhole : LastCollect → WriteEnd → Type 0
IsWhole answer end = (last_of end ≡ answer) × (course_of end ≡ all.Whole)

-- the writing side of a connection: by the pass items were collected, and at last that nothing comes any more; what these entries say
-- was written, or a prefix of it up to a failed write
pub record WritesSide (cell : CellView State) (end : WriteEnd) (old new : Pass) (from to : SinkState) : Type 0 where
  pub items : History
  pub handed : AreHandedOver old.seat.number (conn_of old) items
  pub entries : History
  pub ends : entries ≡ items ++ (entry old.seat.number (Collect (conn_of old)) (last_reply (last_of end)) ∷ [])
  pub entered : Entered cell entries old new
  pub writes : WritesAll (course_of end) (said (conn_of old) entries) from to
