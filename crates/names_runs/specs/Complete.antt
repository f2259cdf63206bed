-- What a run of a name service leaves out where nothing fails: nothing. Own profile.
use Rattle.std.specs.Prelude.{◌≡◌, ◌≢◌, ℕ, Bool, true, List, [], ◌∷◌, length, IfSome}
use Rattle.orb_base.specs.Links.{AcceptorState}
use Rattle.orb_base.specs.Outside.{SourceState, SinkState, Rose}
use Rattle.adapter_policies.specs.SetupData.{SetupData}
use Rattle.turn_cell.specs.History.{of}
use Rattle.side_by_side.specs.Sides.{Pairs}
use Rattle.link_slots.specs.Slots.{ServesInOrder}
use Rattle.link_slots.specs.declared.host.LinkJob.{LinkJob}
use Rattle.link_slots.specs.declared.host.LinkDone.{LinkDone}
use Rattle.link_slots.specs.declared.slot_end.SlotEnd.{SlotEnd}
use Rattle.link_slots.specs.declared.slot_end.SlotEnd.TheVariants.{Done, Served, Closed, AcceptFault}
use Rattle.halls.specs.Laws.{IsWhole}
use Rattle.halls.specs.Served.{conn_of}
use Rattle.halls.specs.declared.ends.HallRead.TheVariants as read
use Rattle.halls.specs.declared.host.LinkLog.{LinkLog}
use Rattle.name_map.specs.Callers.{History}
use Rattle.names_hall.specs.Hands.{Hand, held}
use Rattle.names_hall.specs.Entering.{AreEntered}
use Rattle.names_hall.specs.Seats.{seat_of}
use Rattle.names_runs.specs.Runs.{first_hand, Slot, SlotRan}

module _ {I O : Type 0} (source : I → SourceState) (sink : O → SinkState) where
  -- nothing failed at a connection: no read and no write of it failed, the hand had an invocation for each request, and memory didn't run
  -- out
  pub record WentWell (link : I × O) (log : LinkLog I O) : Type 0 where
    pub no_read_fault : ¬ Rose (source link.0).faults (source log.source).faults
    pub no_write_fault : ¬ Rose (sink link.1).faults (sink log.sink).faults
    pub not_closed : log.read ≢ read.RunClosed
    pub memory : log.read ≢ read.NoMemory

  module _ (setup : SetupData) where
    -- a link was served whole: all that its bytes mean was made, up to what ends them, and all of it was written
    pub record ServesWhole (link : LinkJob Hand I O) (done : LinkDone Hand (LinkLog I O)) : Type 0 where
      pub id_is : done.log.id ≡ conn_of (held link.place) link.nth
      pub whole : IsWhole (done.log.read, done.log.write) setup (conn_of (held link.place) link.nth) (source link.source)
          (source done.log.source) (record { hand = held link.place; sink = sink link.sink })
          (record { hand = held done.place; sink = sink done.log.sink })

module _ {A I O : Type 0} (state : A → AcceptorState I O) (source : I → SourceState) (sink : O → SinkState) (setup : SetupData)
    (h : History) where
  -- nothing failed at a slot: no accept of it, and nothing at its connections
  abbrev pub SlotWentWell : (slot : ℕ) (s : Slot A I O) → SlotRan state source sink setup h slot s → Type 0
  SlotWentWell slot s ran = (s.end ≢ AcceptFault) × Pairs (WentWell source sink) ran.serves.links s.conns

  -- all links were served that came: no further one is there, or as many were served as may be, or the last one closed the slot
  abbrev pub ServedAll : Slot A I O → Bool → SlotEnd → Type 0
  ServedAll s closed Done = IfSome (state s.after).links (λ links. links ≡ [])
  ServedAll s closed Served = length s.conns ≡ setup.per_slot
  ServedAll s closed Closed = closed ≡ true
  ServedAll s closed AcceptFault = ⊥

  -- a slot that left nothing out: each of its connections was served whole, in order, by its hand, whose invocations are all entered; and
  -- all links were served that came
  pub record SlotComplete (slot : ℕ) (s : Slot A I O) : Type 0 where
    pub first : Hand
    pub last : Hand
    pub begins : held first ≡ first_hand slot
    pub did : last.done ≡ s.done
    pub closed : Bool
    pub serves : ServesInOrder state (ServesWhole source sink setup) first (state s.before) (state s.after) s.conns closed last
    pub entered : AreEntered (seat_of slot) s.done (of (seat_of slot) h)
    pub all : ServedAll s closed s.end
