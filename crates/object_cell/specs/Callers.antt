-- Who may make which call, by the opening object and the caller's own entries.
use Rattle.std.specs.Prelude.{◌≡◌, ◌≤◌, ◌<◌, ℕ, Bool, true, false, List, [], ◌∷◌, Option, Some, None, count_by}
use Rattle.orb_base.specs.JobRecord.{JobRecord}
use Rattle.orb_base.specs.declared.outcome.Outcome.{Outcome}
use Rattle.flat_seats.specs.Flat.{flat}
use Rattle.object_cell.specs.declared.call.ObjectCall.{ObjectCall}
use Rattle.object_cell.specs.declared.call.ObjectCall.TheVariants.{Begin, Commit}
use Rattle.object_cell.specs.declared.call.ObjectReply.{ObjectReply}
use Rattle.object_cell.specs.declared.call.ObjectReply.TheVariants.{Value, Stored}
use Rattle.object_cell.specs.declared.limits.TheConstants.{MAX_SLOTS}
use Rattle.object_cell.specs.Machine.{Machine, One, History, Comes}

-- the first seat has heirs alone, one for each slot
abbrev pub heir : ℕ → ℕ → Option ℕ
heir = flat MAX_SLOTS

module _ {V : Type 0} where
  -- who makes the call
  abbrev pub by_of : ObjectCall V → ℕ
  by_of (Begin by) = by
  by_of (Commit by job outcome value) = by

  -- the call is a Begin
  abbrev pub is_begin : ObjectCall V → Bool
  is_begin (Begin by) = true
  is_begin (Commit by job outcome value) = false

  -- by the last reply its caller doesn't hold the value
  abbrev pub IsFree : Option (ObjectReply V) → Type 0
  IsFree None = Unit {0}
  IsFree (Some Stored) = Unit {0}
  IsFree (Some (Value v)) = ⊥

module _ {S V : Type 0} where
  -- how many Begins there were
  abbrev pub begins : History S V → ℕ
  begins mine = count_by (λ (e : One S V). is_begin e.call) mine

  -- the reply to the last of these, or else this one
  abbrev pub latest : Option (ObjectReply V) → History S V → Option (ObjectReply V)
  latest before [] = before
  latest before (e ∷ es) = latest (Some e.reply) es

  module _ (staged : S → List ℕ → JobRecord → Option V → Outcome × Option V) where
    -- a caller begins as often as its share says, and not while it holds the value; what it commits came of the job on the value
    -- that its Begin was answered
    abbrev pub MayCall : Machine S V → History S V → ObjectCall V → Type 0
    MayCall x mine (Begin by) = IsFree (latest None mine) × (begins mine < x.share)
    MayCall x mine (Commit by job outcome value) =
        (was : Option V) × (latest None mine ≡ Some (Value was)) × Comes staged x job was outcome value

    -- the caller is the seat of a slot, makes calls in its own name, and those alone that it may make
    abbrev pub IsFit : Machine S V → ℕ → History S V → ObjectCall V → Type 0
    IsFit x n mine call = (by_of call ≡ n) × (1 ≤ n) × (n ≤ x.slots) × MayCall x mine call
