-- What the one history of a run says of its connections, workers and requests: own profile, over CORBA 3.0.3, section 15.4, and
-- Real-time CORBA 1.2, Threadpools.
use Rattle.std.specs.Prelude.{◌≡◌, ◌<◌, ◌+◌, ℕ, false, List, [], ◌∷◌, ◌++◌, length, map}
use Rattle.std.specs.List.{flat_map}
use Rattle.orb_base.specs.JobRecord.{JobRecord}
use Rattle.orb_base.specs.Links.{AcceptorState}
use Rattle.orb_base.specs.Outside.{SourceState, SinkState}
use Rattle.orb_base.specs.declared.outcome.Outcome.{Outcome}
use Rattle.thread_borrowing.specs.ThreadList.{pool_threads}
use Rattle.turn_cell.specs.Seats.{CellView}
use Rattle.lane_machine.specs.Callers.{of, slot_seat, worker_seat, AreFit}
use Rattle.lane_machine.specs.Histories.{History, IsLegal}
use Rattle.lane_machine.specs.State.{State, Opens, opening}
use Rattle.adapter_policies.specs.SetupData.{SetupData}
use Rattle.orb_server.specs.Connections.{Conn, AreWritten}
use Rattle.link_slots.specs.SlotEnds.{HasCause}
use Rattle.link_slots.specs.declared.slot_end.SlotEnd.{SlotEnd}
use Rattle.orb_server.specs.SlotEnds.{closed_behind}
use Rattle.orb_server.specs.Jobs.{PoolDone}
use Rattle.orb_server.specs.Slots.{leaving, read_by, ServesLinks}
use Rattle.orb_server.specs.Threads.{AreDone, WorkedOff}
use Rattle.orb_server.specs.declared.run.ConnLog.{ConnLog}

-- the state in which a run of the setup opens
abbrev pub opening_of : SetupData → State
opening_of setup = opening setup.pool setup.slots setup.per_slot

-- a run may open there, the history is legal from there, and each call in it was fit for its caller; so what the laws of the lane
-- machine say of a legal and fit history from an opening, they say of this one
pub record IsLawful (setup : SetupData) (h : History) : Type 0 where
  pub opens : Opens (opening_of setup)
  pub legal : IsLegal (opening_of setup) h
  pub fit : AreFit (opening_of setup) h

-- a slot: its acceptor before and after the run, what its connections left, and how it came out
pub record Slot (A I O : Type 0) : Type 0 where
  pub before : A
  pub behind : A
  pub conns : List (ConnLog I O)
  pub end : SlotEnd

module _ {A I O : Type 0} (state : A → AcceptorState I O) (source : I → SourceState) (sink : O → SinkState) (setup : SetupData)
    (h : History) where
  -- the slot's connections were served on links of its acceptor, in order; the entries of its number are the calls of their reading
  -- sides, one connection after another, and then its leave; those of the writing sides' numbers are their collects; and its end has
  -- its cause
  pub record SlotRan (slot : ℕ) (s : Slot A I O) : Type 0 where
    pub cs : List (Conn I O)
    pub serves : ServesLinks source sink setup slot (state s.before) (state s.behind) s.conns cs
    pub read : of (slot_seat slot) h ≡ read_by cs ++ leaving slot
    pub written : AreWritten h slot 0 cs
    pub cause : HasCause s.end setup.per_slot (length s.conns) (closed_behind false s.conns) (state s.before) (state s.behind)

  -- so did the slots from this one on
  abbrev pub SlotsRan : ℕ → List (Slot A I O) → Type 0
  SlotsRan slot [] = Unit {0}
  SlotsRan slot (s ∷ ss) = SlotRan slot s × SlotsRan (slot + 1) ss

  -- all slots of a run, in order, with these acceptors before and after it; these are all connections, and so the slots came out
  pub record AllSlotsRan (before behind : List A) (conns : List (ConnLog I O)) (ends : List SlotEnd) : Type 0 where
    pub slots : List (Slot A I O)
    pub count : length slots ≡ setup.slots
    pub before_are : before ≡ map (λ (s : Slot A I O). s.before) slots
    pub behind_are : behind ≡ map (λ (s : Slot A I O). s.behind) slots
    pub conns_are : conns ≡ flat_map (λ (s : Slot A I O). s.conns) slots
    pub ends_are : ends ≡ map (λ (s : Slot A I O). s.end) slots
    pub ran : SlotsRan 0 slots

-- so it is with any acceptors with which the slots left this
abbrev pub SlotsRanOver : {A I O : Type 0} → (A → AcceptorState I O) → (I → SourceState) → (O → SinkState) → SetupData → CellView State
    → History
    → List (PoolDone A I O) → List A → List (ConnLog I O) → List SlotEnd → Type 0
SlotsRanOver {A} state source sink setup cell h done behind conns ends =
    (before : List A) → AreDone state source sink setup cell 0 before done → AllSlotsRan state source sink setup h before behind conns ends

-- the entries of each worker's number are its tasks, each carried out as the servants do, and at last that all has ended
abbrev pub WorkersRan : SetupData → (List ℕ → JobRecord → Outcome) → History → Type 0
WorkersRan setup outcome h = (t : ℕ) → t < length (pool_threads 0 setup.pool.lanes)
    → WorkedOff setup outcome (worker_seat setup.slots t) t (of (worker_seat setup.slots t) h)
