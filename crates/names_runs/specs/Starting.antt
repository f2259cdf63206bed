-- What the slots of a run begin with, and what they leave: own profile.
use Rattle.std.specs.Prelude.{◌≡◌, ◌≤◌, ℕ, ◌+◌, Bool, List, [], ◌∷◌, length, map}
use Rattle.std.specs.Vec.{vec_capacity}
use Rattle.orb_base.specs.Links.{AcceptorState}
use Rattle.orb_base.specs.Outside.{SourceState, SinkState}
use Rattle.adapter_policies.specs.SetupData.{SetupData}
use Rattle.link_slots.specs.SlotEnds.{HasCause}
use Rattle.link_slots.specs.Slots.{ServesInOrder}
use Rattle.halls.specs.Served.{ServesLink}
use Rattle.name_map.specs.declared.limits.TheConstants.{MAX_CALLERS}
use Rattle.names_hall.specs.Hands.{Cell, Hand, held}
use Rattle.names_hall.specs.Seats.{IsHandAt, IsFresh}
use Rattle.names_runs.specs.Jobs.{NamesJob, NamesDone}
use Rattle.names_runs.specs.declared.job.SlotStart.{SlotStart}

module _ {I O : Type 0} (setup : SetupData) (cell : Cell) where
  -- a slot's hand by which nothing was done, and room for what its connections leave
  pub record IsStart (slot : ℕ) (start : SlotStart I O) : Type 0 where
    pub fresh : IsFresh cell slot start.hand
    pub empty : start.logs.items ≡ []
    pub room : setup.per_slot ≤ vec_capacity start.logs

  -- so begin the slots from this one on
  abbrev pub AreStarts : ℕ → List (SlotStart I O) → Type 0
  AreStarts slot [] = Unit {0}
  AreStarts slot (s ∷ ss) = IsStart slot s × AreStarts (slot + 1) ss

module _ {A I O : Type 0} (setup : SetupData) (cell : Cell) where
  -- the same with an acceptor beside
  pub record BeginsAt (slot : ℕ) (job : NamesJob A I O) : Type 0 where
    pub fresh : IsFresh cell slot job.place
    pub empty : job.logs.items ≡ []
    pub room : setup.per_slot ≤ vec_capacity job.logs

  -- so begin the slots from this one on
  abbrev pub AreJobs : ℕ → List (NamesJob A I O) → Type 0
  AreJobs slot [] = Unit {0}
  AreJobs slot (j ∷ js) = BeginsAt slot j × AreJobs (slot + 1) js

module _ {A I O : Type 0} where
  -- the acceptors of the slots
  abbrev pub acceptors_of : List (NamesJob A I O) → List A
  acceptors_of jobs = map {B = A} (λ (j : NamesJob A I O). j.acceptor) jobs

module _ {A I O : Type 0} (state : A → AcceptorState I O) (source : I → SourceState) (sink : O → SinkState) (setup : SetupData)
    (cell : Cell) where
  -- a slot served links of its acceptor, which was like this before, by its hand, by which nothing was done before
  pub record IsDone (slot : ℕ) (before : A) (done : NamesDone A I O) : Type 0 where
    pub first : Hand
    pub fresh : IsFresh cell slot first
    pub closed : Bool
    pub serves : ServesInOrder state (ServesLink source sink setup held) first (state before) (state done.acceptor) done.logs.items closed
        done.place
    pub cause : HasCause done.end setup.per_slot (length done.logs.items) closed (state before) (state done.acceptor)
    pub at : IsHandAt cell slot done.place

  -- so did the slots from this one on, each with its acceptor
  abbrev pub AreDone : ℕ → List A → List (NamesDone A I O) → Type 0
  AreDone slot [] [] = Unit {0}
  AreDone slot [] (d ∷ ds) = ⊥
  AreDone slot (a ∷ rest) [] = ⊥
  AreDone slot (a ∷ rest) (d ∷ ds) = IsDone slot a d × AreDone (slot + 1) rest ds

  -- the four slots served links of some acceptors, and so it is with what they left
  pub record IsBack (done : List (NamesDone A I O)) : Type 0 where
    pub before : List A
    pub are : AreDone 0 before done
    pub all : length done ≡ MAX_CALLERS
