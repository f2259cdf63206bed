-- What a run of a name service did: own profile.
use Rattle.std.specs.Prelude.{◌≡◌, ℕ, ◌+◌, Bool, List, [], ◌∷◌, length, map}
use Rattle.std.specs.List.{flat_map}
use Rattle.orb_base.specs.Links.{AcceptorState}
use Rattle.orb_base.specs.Outside.{SourceState, SinkState}
use Rattle.orb_base.specs.declared.answer.Answer.{Answer}
use Rattle.adapter_policies.specs.SetupData.{SetupData}
use Rattle.turn_cell.specs.History.{of, replay}
use Rattle.link_slots.specs.SlotEnds.{HasCause}
use Rattle.link_slots.specs.Slots.{ServesInOrder}
use Rattle.link_slots.specs.declared.slot_end.SlotEnd.{SlotEnd}
use Rattle.halls.specs.Hands.{HandState}
use Rattle.halls.specs.Served.{ServesLink}
use Rattle.halls.specs.declared.host.LinkLog.{LinkLog}
use Rattle.name_map.specs.Callers.{History}
use Rattle.name_map.specs.Machine.{step}
use Rattle.name_map.specs.declared.limits.TheConstants.{MAX_CALLERS, MAX_CALLS}
use Rattle.names_hall.specs.Hands.{Cell, Hand, held}
use Rattle.names_hall.specs.Entering.{AreEntered}
use Rattle.names_hall.specs.Seats.{seat_of}
use Rattle.names_hall.specs.Closing.{told_in}
use Rattle.names_runs.specs.Jobs.{NamesDone}
use Rattle.names_runs.specs.Starting.{AreDone}
use Rattle.names_runs.specs.declared.run.NamesRun.{NamesRun}

-- how many keys the map holds after a history
abbrev pub keys_after : History → ℕ
keys_after h = length (replay step [] h)

-- the hand of a slot before its first invocation
abbrev pub first_hand : ℕ → HandState
first_hand slot = record { slot = slot; done = []; spare = MAX_CALLS }

-- a slot: its acceptor before and after the run, what it did, what its connections left, and how it came out
pub record Slot (A I O : Type 0) : Type 0 where
  pub before : A
  pub after : A
  pub done : List Answer
  pub conns : List (LinkLog I O)
  pub end : SlotEnd

module _ {A I O : Type 0} (state : A → AcceptorState I O) (source : I → SourceState) (sink : O → SinkState) (setup : SetupData)
    (h : History) where
  -- links of the slot's acceptor were served in order, each as a connection of a hall, by its hand, by which all that was done is this; the
  -- entries of its number are those of these invocations, in order and each once; and its end has its cause
  pub record SlotRan (slot : ℕ) (s : Slot A I O) : Type 0 where
    pub first : Hand
    pub last : Hand
    pub begins : held first ≡ first_hand slot
    pub did : last.done ≡ s.done
    pub closed : Bool
    pub serves : ServesInOrder state (ServesLink source sink setup held) first (state s.before) (state s.after) s.conns closed last
    pub cause : HasCause s.end setup.per_slot (length s.conns) closed (state s.before) (state s.after)
    pub entered : AreEntered (seat_of slot) s.done (of (seat_of slot) h)

  -- so did the slots from this one on
  abbrev pub SlotsRan : ℕ → List (Slot A I O) → Type 0
  SlotsRan slot [] = Unit {0}
  SlotsRan slot (s ∷ ss) = SlotRan slot s × SlotsRan (slot + 1) ss

module _ {A I O : Type 0} (state : A → AcceptorState I O) (source : I → SourceState) (sink : O → SinkState) (setup : SetupData) where
  -- the four slots of a run, in order, with these acceptors before and after it; this was done, these are all connections, and so the slots
  -- came out
  pub record AllSlotsRan (run : NamesRun I O) (before after : List A) : Type 0 where
    pub slots : List (Slot A I O)
    pub count : length slots ≡ MAX_CALLERS
    pub before_are : before ≡ map (λ (s : Slot A I O). s.before) slots
    pub after_are : after ≡ map (λ (s : Slot A I O). s.after) slots
    pub done_are : told_in run.done.items ≡ map (λ (s : Slot A I O). s.done) slots
    pub conns_are : run.conns.items ≡ flat_map (λ (s : Slot A I O). s.conns) slots
    pub ends_are : run.slots.items ≡ map (λ (s : Slot A I O). s.end) slots
    pub ran : SlotsRan state source sink setup run.history.items 0 slots

  -- so it is with any acceptors with which the slots left this
  abbrev pub RanOver : Cell → List (NamesDone A I O) → NamesRun I O → List A → Type 0
  RanOver cell done run after = (before : List A) → AreDone state source sink setup cell 0 before done → AllSlotsRan run before after
