-- What became of the connections of a slot, one after another: own profile.
use Rattle.std.specs.Prelude.{◌≡◌, ℕ, ◌+◌, Bool, List, [], ◌∷◌, ◌++◌}
use Rattle.orb_base.specs.Outside.{SourceState, SinkState, IsNewSource, IsNewSink}
use Rattle.orb_base.specs.declared.conn_id.ConnId.{ConnId}
use Rattle.lane_machine.specs.Callers.{of, slot_seat, writer_seat}
use Rattle.lane_machine.specs.Histories.{History}
use Rattle.lane_machine.specs.declared.call.LaneCall.TheVariants.{Collect, End}
use Rattle.lane_machine.specs.declared.call.LaneReply.TheVariants.{Noted}
use Rattle.adapter_policies.specs.SetupData.{SetupData}
use Rattle.conn_engine.specs.Reads.{Takes}
use Rattle.text_streams.specs.Streams.{WritesAll}
use Rattle.pipe_laws.specs.Said.{said}
use Rattle.conn_sides.specs.Entering.{entry}
use Rattle.conn_sides.specs.ReadSides.{WentOnBehind, HearsBy, how_by}
use Rattle.conn_sides.specs.WriteSides.{AreHandedOver, last_reply, last_of, course_of}
use Rattle.conn_sides.specs.declared.read_side_end.ReadSideEnd.{ReadSideEnd}
use Rattle.conn_sides.specs.declared.write_end.WriteEnd.{WriteEnd}
use Rattle.lane_pool.specs.Pass.{Leaving}
use Rattle.orb_server.specs.declared.run.ConnLog.{ConnLog}

-- the connection of this number of a slot
abbrev pub conn_at : ℕ → ℕ → ConnId
conn_at slot nth = record { slot = slot; nth = nth }

-- these entries of a slot's seat are the calls that the connection's bytes mean, and then its End: some bytes were taken, those of the
-- last read after the earlier ones
pub record IsHeard (setup : SetupData) (conn : ConnId) (entries : History) (end : ReadSideEnd) (from to : SourceState) : Type 0 where
  pub bytes : List ℕ
  pub earlier : List ℕ
  pub ended : Bool
  pub takes : Takes from to earlier bytes ended
  pub calls : History
  pub hears : HearsBy end setup conn earlier bytes ended calls from to
  pub before : WentOnBehind setup conn earlier calls
  pub parts : entries ≡ calls ++ (entry (slot_seat conn.slot) (End conn (how_by end)) Noted ∷ [])

-- these entries of the writing side's seat hand over what the connection is owed, and at last that nothing comes any more; what they say
-- was written, or a prefix of it up to a failed write
pub record IsSaid (conn : ConnId) (entries : History) (end : WriteEnd) (from to : SinkState) : Type 0 where
  pub items : History
  pub handed : AreHandedOver (writer_seat conn) conn items
  pub parts : entries ≡ items ++ (entry (writer_seat conn) (Collect conn) (last_reply (last_of end)) ∷ [])
  pub writes : WritesAll (course_of end) (said conn entries) from to

-- a connection: the link that it was served on, what it left, the entries of its reading side, and those of its writing side
pub record Conn (I O : Type 0) : Type 0 where
  pub link : I × O
  pub log : ConnLog I O
  pub read : History
  pub written : History

module _ {I O : Type 0} where
  -- what the writing sides of a slot's connections leave, from this connection on
  abbrev pub writers_left : ℕ → ℕ → List (Conn I O) → List Leaving
  writers_left slot nth [] = []
  writers_left slot nth (c ∷ cs) =
      record { number = writer_seat (conn_at slot nth); calls = c.written; splits = 0 } ∷ writers_left slot (nth + 1) cs

  -- the entries of the writing sides are those of their numbers in the history, from this connection on
  abbrev pub AreWritten : History → ℕ → ℕ → List (Conn I O) → Type 0
  AreWritten h slot nth [] = Unit {0}
  AreWritten h slot nth (c ∷ cs) = (c.written ≡ of (writer_seat (conn_at slot nth)) h) × AreWritten h slot (nth + 1) cs

module _ {I O : Type 0} (source : I → SourceState) (sink : O → SinkState) (setup : SetupData) where
  -- the connection was served on a new link: what its bytes mean was called, and what it was owed was written
  pub record IsServed (id : ConnId) (c : Conn I O) : Type 0 where
    pub id_is : c.log.id ≡ id
    pub unread : IsNewSource (source c.link.0)
    pub unwritten : IsNewSink (sink c.link.1)
    pub heard : IsHeard setup id c.read c.log.read (source c.link.0) (source c.log.source)
    pub said : IsSaid id c.written c.log.write (sink c.link.1) (sink c.log.sink)

  -- the connections of a slot were served, from this one on
  abbrev pub AreServed : ℕ → ℕ → List (Conn I O) → Type 0
  AreServed slot nth [] = Unit {0}
  AreServed slot nth (c ∷ cs) = IsServed (conn_at slot nth) c × AreServed slot (nth + 1) cs
