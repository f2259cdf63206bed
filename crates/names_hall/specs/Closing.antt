-- The one history of a map that was closed.
use Rattle.std.specs.Prelude.{◌≡◌, ◌+◌, ℕ, true, List, [], ◌∷◌, ◌++◌, map}
use Rattle.orb_base.specs.declared.answer.Answer.{Answer}
use Rattle.orb_base.specs.declared.told.Told.{Told}
use Rattle.turn_cell.specs.History.{of, Legal, FitFrom}
use Rattle.turn_cell.specs.Calls.{IsOf, gone}
use Rattle.name_map.specs.Callers.{History, IsFit}
use Rattle.name_map.specs.Machine.{step}
use Rattle.names_hall.specs.Hands.{Cell, Sitting, Leaving, Hand}
use Rattle.names_hall.specs.Entering.{AreEntered}
use Rattle.names_hall.specs.Seats.{seat_of}

-- the history is legal from the empty map on: each reply is what the map answers after the calls before it; and each call in it was fit
-- for its caller
pub record IsLawful (h : History) : Type 0 where
  pub legal : Legal (λ _ _. true) (λ _ _. Unit {0}) step [] h
  pub fit : FitFrom IsFit [] [] h

-- what was done by some hands
abbrev pub done_by : List Hand → List (List Answer)
done_by hands = map {B = List Answer} (λ (x : Hand). x.done) hands

-- what was told of them
abbrev pub told_in : List (Told Answer) → List (List Answer)
told_in all = map {B = List Answer} (λ (x : Told Answer). x.items) all

-- the slots' entries in a history, from this slot on, are those of what each did, in order and each once
abbrev pub AreKept : History → ℕ → List (List Answer) → Type 0
AreKept h slot [] = Unit {0}
AreKept h slot (done ∷ rest) = AreEntered (seat_of slot) done (of (seat_of slot) h) × AreKept h (slot + 1) rest

-- what stays known of the seats of some hands
abbrev pub left_by : List Hand → List Leaving
left_by hands = map {B = Leaving} (λ (x : Hand). gone x.seat) hands

-- the hands' seats were joined into the first one, in order
pub record TakesIn (cell : Cell) (hands : List Hand) (old new : Sitting) : Type 0 where
  pub in_cell : IsOf cell new
  pub number : new.number ≡ old.number
  pub splits : new.splits ≡ old.splits
  pub ended : new.ended ≡ old.ended ++ left_by hands
