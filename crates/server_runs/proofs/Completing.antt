-- A run in which nothing failed leaves nothing out.
use Rattle.std.proofs.Common.{◌≡◌, ℕ, ◌+◌, length, false, List, [], ◌∷◌, subst, refl}
use Rattle.orb_base.specs.Links.{AcceptorState}
use Rattle.orb_base.specs.Outside.{SourceState, SinkState}
use Rattle.orb_base.specs.declared.conn_id.ConnId.{ConnId}
use Rattle.lane_machine.specs.Histories.{History}
use Rattle.adapter_policies.specs.SetupData.{SetupData}
use Rattle.text_streams.specs.Streams.{WritesAll, WroteText}
use Rattle.text_streams.specs.declared.writing.WriteAll.{WriteAll}
use Rattle.text_streams.specs.declared.writing.WriteAll.TheVariants.{Whole}
use Rattle.pipe_laws.specs.Said.{said}
use Rattle.conn_sides.specs.WriteSides.{course_of}
use Rattle.conn_sides.specs.declared.read_side_end.ReadSideEnd.{ReadSideEnd}
use Rattle.conn_sides.specs.declared.read_side_end.ReadSideEnd.TheVariants as side
use Rattle.orb_server.specs.Connections.{Conn, conn_at, IsHeard, IsServed, AreServed}
use Rattle.orb_server.specs.Runs.{Slot, SlotRan, SlotsRan}
use Rattle.link_slots.specs.SlotEnds.{HasCause}
use Rattle.orb_server.specs.SlotEnds.{closed_behind}
use Rattle.orb_server.specs.Slots.{logs_of}
use Rattle.orb_server.specs.declared.run.ConnLog.{ConnLog}
use Rattle.link_slots.specs.declared.slot_end.SlotEnd.{SlotEnd}
use Rattle.link_slots.specs.declared.slot_end.SlotEnd.TheVariants.{Done, Served, Closed, AcceptFault}
use Rattle.server_runs.specs.Complete.{ReadsWell, WentWell, AcceptsWell, AllWentWell, IsComplete, AreComplete, ServedAll, SlotComplete, AllComplete}

module _ {I O : Type 0} (source : I → SourceState) (sink : O → SinkState) (setup : SetupData) where
  -- by how the reading came out
  read_whole : (id : ConnId) (c : Conn I O) (end : ReadSideEnd) → c.log.read ≡ end → ReadsWell end
      → IsHeard setup id c.read end (source c.link.0) (source c.log.source) → WroteText (said id c.written) (sink c.link.1) (sink c.log.sink)
      → IsComplete source sink setup id c
  read_whole id c (side.Read end) same well h wrote = record {
    bytes = h.bytes;
    ended = h.ended;
    end = end;
    end_is = same;
    gave = h.takes.gave;
    met = h.takes.met;
    calls = h.calls;
    heard = h.hears.0;
    parts = rw same h.parts;
    wrote = wrote;
  }
  read_whole id c side.RunClosed same well h wrote = absurd well
  read_whole id c side.NoMemory same well h wrote = absurd well

  is_complete : (id : ConnId) (c : Conn I O) → ReadsWell c.log.read → course_of c.log.write ≡ Whole → IsServed source sink setup id c → IsComplete source sink setup id c
  is_complete id c well whole h =
      let wrote : WritesAll Whole (said id c.written) (sink c.link.1) (sink c.log.sink)
      = subst (λ (w : WriteAll). WritesAll w (said id c.written) (sink c.link.1) (sink c.log.sink)) whole h.said.writes in
      read_whole id c c.log.read refl well h.heard wrote.0

  are_complete : (slot nth : ℕ) (cs : List (Conn I O)) → WentWell (logs_of cs) → AreServed source sink setup slot nth cs → AreComplete source sink setup slot nth cs
  are_complete slot nth [] well h = tt
  are_complete slot nth (c ∷ cs) well h =
      (is_complete (conn_at slot nth) c well.0 well.1 h.0, are_complete slot (nth + 1) cs well.2 h.1)

module _ {A I O : Type 0} (state : A → AcceptorState I O) (source : I → SourceState) (sink : O → SinkState) (setup : SetupData) (h : History) where
  served_all : (s : Slot A I O) (end : SlotEnd) → AcceptsWell end
      → HasCause end setup.per_slot (length s.conns) (closed_behind false s.conns) (state s.before) (state s.behind) → ServedAll state source sink setup h s end
  served_all s Done well cause = cause.4
  served_all s Served well cause = cause.0
  served_all s Closed well cause = cause.1
  served_all s AcceptFault well cause = absurd well

  slot_complete : (slot : ℕ) (s : Slot A I O) → WentWell s.conns → AcceptsWell s.end → SlotRan state source sink setup h slot s → SlotComplete state source sink setup h slot s
  slot_complete slot s well accepts ran = record {
    cs = ran.cs;
    logs_are = ran.serves.logs_are;
    links = ran.serves.links;
    called = ran.read;
    written = ran.written;
    each = are_complete source sink setup slot 0 ran.cs (subst (λ (ls : List (ConnLog I O)). WentWell ls) ran.serves.logs_are well) ran.serves.served;
    all = served_all s s.end accepts ran.cause;
  }

  pub slots_complete : (slot : ℕ) (ss : List (Slot A I O)) → AllWentWell ss → SlotsRan state source sink setup h slot ss → AllComplete state source sink setup h slot ss
  slots_complete slot [] well ran = tt
  slots_complete slot (s ∷ ss) well ran = (slot_complete slot s well.0 well.1 ran.0, slots_complete (slot + 1) ss well.2 ran.1)
