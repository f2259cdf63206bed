-- The seats of a map, and its hands.
use Rattle.std.specs.Prelude.{◌≡◌, ◌<◌, ◌≤◌, ◌+◌, ℕ, true, List, [], ◌∷◌, ◌++◌, length}
use Rattle.orb_base.specs.JobRecord.{JobRecord}
use Rattle.orb_base.specs.declared.outcome.Outcome.{Outcome}
use Rattle.turn_cell.specs.Calls.{IsOf, IsLater, Calls}
use Rattle.name_map.specs.declared.call.NamesCall.{NamesCall}
use Rattle.name_map.specs.declared.call.NamesReply.{NamesReply}
use Rattle.name_map.specs.declared.limits.TheConstants.{MAX_CALLERS, MAX_CALLS}
use Rattle.name_map.specs.Callers.{History, Opens, IsFit}
use Rattle.name_map.specs.Machine.{step}
use Rattle.names_hall.specs.Hands.{Cell, Sitting, Hand}
use Rattle.names_hall.specs.Entering.{Enters, AreEntered}

-- the number of a slot's seat, slots from 0
abbrev pub seat_of : ℕ → ℕ
seat_of slot = slot + 1

-- the call was entered once, under the seat's number, and got the map's reply; what the seat had seen before is a prefix of what it sees
-- now, and that is a legal history in which every call was fit
abbrev pub Makes : Cell → NamesCall → NamesReply → Sitting → Sitting → Type 0
Makes cell call reply old new = Calls (λ _ _. true) (λ _ _. Unit {0}) step Opens IsFit cell call reply old new

-- a seat of this map that may make one call more, whichever it is: it is one of the slots', which have made fewer than they may
pub record MayCall (cell : Cell) (seat : Sitting) : Type 0 where
  pub in_cell : IsOf cell seat
  pub some : 1 ≤ seat.number
  pub few : seat.number ≤ MAX_CALLERS
  pub left : length seat.mine < MAX_CALLS

-- a job came to this outcome by a seat, which entered what the job does, and nothing else
pub record Invokes (job : JobRecord) (outcome : Outcome) (old new : Sitting) : Type 0 where
  pub entries : History
  pub enters : Enters old.number (record { job = job; outcome = outcome }) entries
  pub mine_is : new.mine ≡ old.mine ++ entries
  pub later : IsLater old new

-- a hand of this map: its seat is the slot's, from which no other was split, and its entries are those of the hand's invocations, in
-- order and each once; and it may make so many invocations that all its own are 16,384
pub record IsHandOf (cell : Cell) (hand : Hand) : Type 0 where
  pub in_cell : IsOf cell hand.seat
  pub number_is : hand.seat.number ≡ seat_of hand.slot
  pub slot_is : hand.slot < MAX_CALLERS
  pub unsplit : hand.seat.splits ≡ 0
  pub alone : hand.seat.ended ≡ []
  pub entered : AreEntered (seat_of hand.slot) hand.done hand.seat.mine
  pub share : length hand.done + hand.spare ≡ MAX_CALLS

-- the hand of this slot
pub record IsHandAt (cell : Cell) (slot : ℕ) (hand : Hand) : Type 0 where
  pub of : IsHandOf cell hand
  pub at : hand.slot ≡ slot

-- the hands of the slots from this one on
abbrev pub AreHands : Cell → ℕ → List Hand → Type 0
AreHands cell slot [] = Unit {0}
AreHands cell slot (h ∷ hs) = IsHandAt cell slot h × AreHands cell (slot + 1) hs

-- a hand of this slot by which nothing was done
pub record IsFresh (cell : Cell) (slot : ℕ) (hand : Hand) : Type 0 where
  pub at : IsHandAt cell slot hand
  pub unused : hand.done ≡ []

-- such hands, of the slots from this one on
abbrev pub AreFresh : Cell → ℕ → List Hand → Type 0
AreFresh cell slot [] = Unit {0}
AreFresh cell slot (h ∷ hs) = IsFresh cell slot h × AreFresh cell (slot + 1) hs

-- the first seat of a map, from which k seats were split and to which none was given back
pub record MainAt (cell : Cell) (k : ℕ) (main : Sitting) : Type 0 where
  pub in_cell : IsOf cell main
  pub number_is : main.number ≡ 0
  pub splits_is : main.splits ≡ k
  pub alone : main.ended ≡ []

-- the hands are all of this map, and no seat was joined into theirs
abbrev pub AreIn : Cell → List Hand → Type 0
AreIn cell [] = Unit {0}
AreIn cell (h ∷ hs) = (IsOf cell h.seat × (h.seat.ended ≡ [])) × AreIn cell hs
