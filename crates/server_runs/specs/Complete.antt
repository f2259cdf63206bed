-- What a run leaves out where nothing fails: nothing. Own profile.
use Rattle.std.specs.Prelude.{◌≡◌, ◌++◌, ◌∷◌, ◌+◌, ℕ, Bool, true, false, List, [], length, IfSome}
use Rattle.orb_base.specs.Links.{AcceptorState}
use Rattle.orb_base.specs.Outside.{SourceState, SinkState}
use Rattle.orb_base.specs.declared.conn_id.ConnId.{ConnId}
use Rattle.lane_machine.specs.Callers.{of, slot_seat}
use Rattle.lane_machine.specs.Histories.{History}
use Rattle.lane_machine.specs.declared.call.LaneCall.TheVariants.{End}
use Rattle.lane_machine.specs.declared.call.LaneReply.TheVariants.{Noted}
use Rattle.adapter_policies.specs.SetupData.{SetupData}
use Rattle.text_streams.specs.Streams.{Gave, MeetsEnd, WroteText}
use Rattle.text_streams.specs.declared.writing.WriteAll.TheVariants.{Whole}
use Rattle.pipe_laws.specs.Said.{said}
use Rattle.conn_engine.specs.declared.read_end.ReadEnd.{ReadEnd}
use Rattle.conn_engine.specs.declared.read_end.ReadEnd.TheVariants as read
use Rattle.conn_sides.specs.Entering.{entry}
use Rattle.conn_sides.specs.ReadSides.{HeardWhole, how_by}
use Rattle.conn_sides.specs.WriteSides.{course_of}
use Rattle.conn_sides.specs.declared.read_side_end.ReadSideEnd.{ReadSideEnd}
use Rattle.conn_sides.specs.declared.read_side_end.ReadSideEnd.TheVariants as side
use Rattle.orb_server.specs.Connections.{Conn, conn_at, AreWritten}
use Rattle.orb_server.specs.Runs.{Slot}
use Rattle.orb_server.specs.SlotEnds.{closed_behind}
use Rattle.link_slots.specs.Slots.{HandsOut}
use Rattle.orb_server.specs.Slots.{logs_of, links_of, read_by, leaving}
use Rattle.orb_server.specs.declared.run.ConnLog.{ConnLog}
use Rattle.link_slots.specs.declared.slot_end.SlotEnd.{SlotEnd}
use Rattle.link_slots.specs.declared.slot_end.SlotEnd.TheVariants.{Done, Served, Closed, AcceptFault}

-- no read failed, no call was answered Closing, and memory was not wanting
abbrev pub ReadsWell : ReadSideEnd → Type 0
ReadsWell (side.Read (read.Ended ending)) = Unit {0}
ReadsWell (side.Read read.Spent) = Unit {0}
ReadsWell (side.Read read.ReadFault) = ⊥
ReadsWell side.RunClosed = ⊥
ReadsWell side.NoMemory = ⊥

module _ {I O : Type 0} where
  -- nothing failed at the connections
  abbrev pub WentWell : List (ConnLog I O) → Type 0
  WentWell [] = Unit {0}
  WentWell (log ∷ logs) = ReadsWell log.read × (course_of log.write ≡ Whole) × WentWell logs

-- no accept failed
abbrev pub AcceptsWell : SlotEnd → Type 0
AcceptsWell Done = Unit {0}
AcceptsWell Served = Unit {0}
AcceptsWell Closed = Unit {0}
AcceptsWell AcceptFault = ⊥

-- nothing failed at the slots
module _ {A I O : Type 0} where
  abbrev pub AllWentWell : List (Slot A I O) → Type 0
  AllWentWell [] = Unit {0}
  AllWentWell (s ∷ ss) = WentWell s.conns × AcceptsWell s.end × AllWentWell ss

module _ {I O : Type 0} (source : I → SourceState) (sink : O → SinkState) (setup : SetupData) where
  -- all that the taken bytes of the connection mean was called, up to what ended the reading, which is the end of the input where nothing in
  -- them is; and all that it was owed was written
  pub record IsComplete (id : ConnId) (c : Conn I O) : Type 0 where
    pub bytes : List ℕ
    pub ended : Bool
    pub end : ReadEnd
    pub end_is : c.log.read ≡ side.Read end
    pub gave : Gave bytes (source c.link.0) (source c.log.source)
    pub met : MeetsEnd ended (source c.link.0) (source c.log.source)
    pub calls : History
    pub heard : HeardWhole setup id bytes ended end calls
    pub parts : c.read ≡ calls ++ (entry (slot_seat id.slot) (End id (how_by c.log.read)) Noted ∷ [])
    pub wrote : WroteText (said id c.written) (sink c.link.1) (sink c.log.sink)

  -- so are the connections of a slot, from this one on
  abbrev pub AreComplete : ℕ → ℕ → List (Conn I O) → Type 0
  AreComplete slot nth [] = Unit {0}
  AreComplete slot nth (c ∷ cs) = IsComplete (conn_at slot nth) c × AreComplete slot (nth + 1) cs

module _ {A I O : Type 0} (state : A → AcceptorState I O) (source : I → SourceState) (sink : O → SinkState) (setup : SetupData)
    (h : History) where
  -- all links were served that came: no further one is there, or as many were served as may be, or the last one closed
  abbrev pub ServedAll : Slot A I O → SlotEnd → Type 0
  ServedAll s Done = IfSome (state s.behind).links (λ links. links ≡ [])
  ServedAll s Served = length s.conns ≡ setup.per_slot
  ServedAll s Closed = closed_behind false s.conns ≡ true
  ServedAll s AcceptFault = ⊥

  -- a slot that left nothing out; what its connections called and were handed are the entries of their seats in the history
  pub record SlotComplete (slot : ℕ) (s : Slot A I O) : Type 0 where
    pub cs : List (Conn I O)
    pub logs_are : s.conns ≡ logs_of cs
    pub links : HandsOut (links_of cs) (state s.before) (state s.behind)
    pub called : of (slot_seat slot) h ≡ read_by cs ++ leaving slot
    pub written : AreWritten h slot 0 cs
    pub each : AreComplete source sink setup slot 0 cs
    pub all : ServedAll s s.end

  abbrev pub AllComplete : ℕ → List (Slot A I O) → Type 0
  AllComplete slot [] = Unit {0}
  AllComplete slot (s ∷ ss) = SlotComplete slot s × AllComplete (slot + 1) ss
