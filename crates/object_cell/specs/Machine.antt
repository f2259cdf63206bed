-- The machine of one object that keeps a value: own profile.
use Rattle.std.specs.Prelude.{◌≡◌, ◌≤◌, ◌⊎◌, ℕ, Bool, true, List, Option, Some, None, is_none, Result, Ok, Err}
use Rattle.orb_base.specs.JobRecord.{JobRecord}
use Rattle.orb_base.specs.Outcomes.{no_memory}
use Rattle.orb_base.specs.declared.outcome.Outcome.{Outcome}
use Rattle.turn_cell.specs.declared.entry.Entry.{Entry}
use Rattle.object_cell.specs.declared.call.ObjectCall.{ObjectCall}
use Rattle.object_cell.specs.declared.call.ObjectCall.TheVariants.{Begin, Commit}
use Rattle.object_cell.specs.declared.call.ObjectReply.{ObjectReply}
use Rattle.object_cell.specs.declared.call.ObjectReply.TheVariants.{Value, Stored}
use Rattle.object_cell.specs.declared.limits.TheConstants.{MAX_SLOTS}

-- one object: by what its jobs are carried out, its interface, how many slots share it, how many jobs each of them may run, the
-- value, where it keeps one, and who holds it
pub record Machine (S V : Type 0) : Type 0 where
  pub staging : S
  pub interface : List ℕ
  pub slots : ℕ
  pub share : ℕ
  pub value : Option V
  pub holder : Option ℕ

-- an outcome and the value after a job are those that were to come, or NO_MEMORY and the value before it
abbrev pub CameOf : {V : Type 0} → Outcome × Option V → Option V → Outcome → Option V → Type 0
CameOf due was outcome value = (due ≡ (outcome, value)) ⊎ ((outcome ≡ no_memory) × (value ≡ was))

-- a call of an object with its reply
abbrev pub One : Type 0 → Type 0 → Type 0
One S V = Entry (Machine S V) (ObjectCall V) (ObjectReply V)

-- the calls of an object, in the order in which they were answered
abbrev pub History : Type 0 → Type 0 → Type 0
History S V = List (One S V)

module _ {S V : Type 0} where
  -- whether a call can be answered now: a Begin waits until nobody holds the value
  abbrev pub is_ready : Machine S V → ObjectCall V → Bool
  is_ready m (Begin by) = is_none m.holder
  is_ready m (Commit by job outcome value) = true

  -- the object where this caller holds the value
  abbrev pub held_by : ℕ → Machine S V → Machine S V
  held_by by m = record m { holder = Some by }

  -- the object where this is the value, which nobody holds
  abbrev pub storing : Option V → Machine S V → Machine S V
  storing value m = record m { value = value; holder = None }

  -- the object after a call, and the reply
  abbrev pub step : Machine S V → ObjectCall V → Machine S V × ObjectReply V
  step m (Begin by) = (held_by by m, Value m.value)
  step m (Commit by job outcome value) = (storing value m, Stored)

  -- a call was answered by its step, with the reply twice, or nothing changed
  abbrev pub Steps : {E : Type 0} → Machine S V → Machine S V × ObjectReply V → Machine S V → Result (ObjectReply V × ObjectReply V) E
      → Type 0
  Steps old next new (Ok r) = (new ≡ next.0) × (r.0 ≡ next.1) × (r.1 ≡ next.1)
  Steps old next new (Err _) = new ≡ old

  module _ (zero : S → List ℕ → Option V) where
    -- an object of so many slots and so many jobs for each, with the value that it opens with, which nobody holds
    abbrev pub opening : S → List ℕ → ℕ → ℕ → Machine S V
    opening s interface slots share =
        record { staging = s; interface = interface; slots = slots; share = share; value = zero s interface; holder = None }

    -- a cell opens for 1 to 16 slots, with the value that an object of its interface opens with, which nobody holds
    pub record Opens (m : Machine S V) : Type 0 where
      pub some : 1 ≤ m.slots
      pub few : m.slots ≤ MAX_SLOTS
      pub first : m.value ≡ zero m.staging m.interface
      pub free : m.holder ≡ None

  module _ (staged : S → List ℕ → JobRecord → Option V → Outcome × Option V) where
    -- the outcome and the value are those of the job on an object of this one's interface that had the value before, or NO_MEMORY
    -- and that value
    abbrev pub Comes : Machine S V → JobRecord → Option V → Outcome → Option V → Type 0
    Comes m job was outcome value = CameOf (staged m.staging m.interface job was) was outcome value

    -- what a call needs: who commits holds the value, and what is committed came of the job on that value
    abbrev pub IsSound : Machine S V → ObjectCall V → Type 0
    IsSound m (Begin by) = Unit {0}
    IsSound m (Commit by job outcome value) = (m.holder ≡ Some by) × Comes m job m.value outcome value
