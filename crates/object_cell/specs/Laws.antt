-- What the laws of the machine of one object speak of, over whole histories from an opening on.
use Rattle.std.specs.Prelude.{◌≡◌, ◌*◌, ℕ, List, [], ◌∷◌, Option}
use Rattle.orb_base.specs.JobRecord.{JobRecord}
use Rattle.orb_base.specs.declared.outcome.Outcome.{Outcome}
use Rattle.turn_cell.specs.History as history
use Rattle.object_cell.specs.declared.call.ObjectCall.{ObjectCall}
use Rattle.object_cell.specs.declared.call.ObjectCall.TheVariants.{Begin, Commit}
use Rattle.object_cell.specs.declared.call.ObjectReply.TheVariants.{Value}
use Rattle.object_cell.specs.Machine.{Machine, One, History, is_ready, step, IsSound, Comes}
use Rattle.object_cell.specs.Callers.{IsFit}

-- how many entries a history of an object may have: a Begin and a Commit for each job that a slot may run
abbrev pub room_of : {S V : Type 0} → Machine S V → ℕ
room_of x = x.slots * (2 * x.share)

-- the value after a call, from the value before it
abbrev pub value_after : {V : Type 0} → Option V → ObjectCall V → Option V
value_after was (Begin by) = was
value_after was (Commit by job outcome value) = value

module _ {S V : Type 0} where
  -- the object after a history
  abbrev pub replay : Machine S V → History S V → Machine S V
  replay x h = history.replay step x h

  -- the entries of one caller
  abbrev pub of : ℕ → History S V → History S V
  of n h = history.of n h

  -- the entry is a Begin that was answered this value
  abbrev pub BeginsWith : Option V → One S V → Type 0
  BeginsWith value e = (by : ℕ) × (e.call ≡ Begin by) × (e.reply ≡ Value value)

  -- the entry is a Commit of this value
  abbrev pub Commits : Option V → One S V → Type 0
  Commits value e = (by : ℕ) × (job : JobRecord) × (outcome : Outcome) × (e.call ≡ Commit by job outcome value)

  -- the value after a history, from the value before it
  abbrev pub last_value : Option V → History S V → Option V
  last_value was [] = was
  last_value was (e ∷ es) = last_value (value_after was e.call) es

  module _ (staged : S → List ℕ → JobRecord → Option V → Outcome × Option V) where
    -- each call was ready and sound where it was made, and its reply is the step's there
    abbrev pub IsLegal : Machine S V → History S V → Type 0
    IsLegal x h = history.Legal is_ready (IsSound staged) step x h

    -- each call was fit by its caller's own calls before it
    abbrev pub AreFit : Machine S V → History S V → Type 0
    AreFit x h = history.FitFrom (IsFit staged) x [] h

    -- the entry is this caller's Commit of what a job came to on this value
    abbrev pub CommitsOn : Machine S V → ℕ → Option V → One S V → Type 0
    CommitsOn x by was e =
        (job : JobRecord) × (outcome : Outcome) × (value : Option V) × (e.call ≡ Commit by job outcome value)
        × Comes staged x job was outcome value

    -- what is committed came of its job on the value before it
    abbrev pub ComesOf : Machine S V → Option V → ObjectCall V → Type 0
    ComesOf x was (Begin by) = Unit {0}
    ComesOf x was (Commit by job outcome value) = Comes staged x job was outcome value

    -- so is each Commit of a history, the first of them on this value and each other one on that of the Commit before it
    abbrev pub ComeInTurn : Machine S V → Option V → History S V → Type 0
    ComeInTurn x was [] = Unit {0}
    ComeInTurn x was (e ∷ es) = ComesOf x was e.call × ComeInTurn x (value_after was e.call) es
