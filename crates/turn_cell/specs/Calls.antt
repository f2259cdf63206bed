-- What a call of a turn cell does to the caller's seat.
use Rattle.std.specs.Prelude.{◌≡◌, ℕ, Bool, List, [], ◌∷◌, ◌++◌, length, ◌+◌, Option, Some}
use Rattle.turn_cell.specs.declared.entry.Entry.{Entry}
use Rattle.turn_cell.specs.declared.board.Gone.{Gone}
use Rattle.turn_cell.specs.declared.tried.Tried.{Tried}
use Rattle.turn_cell.specs.declared.tried.Tried.TheVariants.{Replied, Worn, NotYet}
use Rattle.turn_cell.specs.History.{of, StartsWith}
use Rattle.turn_cell.specs.Seats.{CellView, SeatView}
use Rattle.turn_cell.specs.Good.{Good, entry}
use Rattle.turn_cell.specs.Views.{longer}

module _ {O C R : Type 0} where
  -- the seat is one of this cell
  abbrev pub IsOf : CellView O → SeatView O C R → Type 0
  IsOf cell seat = (seat.cell ≡ cell.id) × (seat.terms ≡ Some cell.terms)

  -- a new cell, and its first seat
  abbrev pub IsOpened : O → ℕ → CellView O → SeatView O C R → Type 0
  IsOpened object length cell seat =
      (cell.terms ≡ record { opening = object; length = length }) × IsOf cell seat × (seat.number ≡ 0) × (seat.seen ≡ [])
      × (seat.mine ≡ []) × (seat.splits ≡ 0) × (seat.ended ≡ [])

  -- the seat has one split more, and the new one is its heir, which has seen as much
  abbrev pub IsSplit : (ℕ → ℕ → Option ℕ) → SeatView O C R → SeatView O C R → SeatView O C R → Type 0
  IsSplit heir old left right =
      (left.cell ≡ old.cell) × (left.terms ≡ old.terms) × (left.number ≡ old.number) × (left.seen ≡ old.seen)
      × (left.mine ≡ old.mine) × (left.splits ≡ old.splits + 1) × (left.ended ≡ old.ended)
      × (right.cell ≡ old.cell) × (right.terms ≡ old.terms) × (heir old.number old.splits ≡ Some right.number)
      × (right.seen ≡ old.seen) × (right.mine ≡ []) × (right.splits ≡ 0) × (right.ended ≡ [])

  -- what stays known of a seat that was joined
  abbrev pub gone : SeatView O C R → Gone O C R
  gone other = record { number = other.number; calls = other.mine; splits = other.splits }

  -- the longer of what was seen and what was given is seen, and both begin it
  abbrev pub Hears : List (Entry O C R) → SeatView O C R → SeatView O C R → Type 0
  Hears told old new =
      (new.cell ≡ old.cell) × (new.terms ≡ old.terms) × (new.number ≡ old.number) × (new.mine ≡ old.mine)
      × (new.splits ≡ old.splits) × (new.seen ≡ longer old.seen told) × StartsWith new.seen old.seen
      × StartsWith new.seen told

  -- the seat hears what the other has seen, and has its number, calls and splits, and what was joined into it
  abbrev pub IsJoined : SeatView O C R → SeatView O C R → SeatView O C R → Type 0
  IsJoined old other new = Hears other.seen old new × (new.ended ≡ old.ended ++ (gone other ∷ other.ended))

  -- the seat hears what the teller has seen
  abbrev pub HasMet : SeatView O C R → SeatView O C R → SeatView O C R → Type 0
  HasMet teller old new = Hears teller.seen old new × (new.ended ≡ old.ended)

  -- the same seat, which has seen no less
  abbrev pub IsLater : SeatView O C R → SeatView O C R → Type 0
  IsLater old new =
      (new.cell ≡ old.cell) × (new.terms ≡ old.terms) × (new.number ≡ old.number) × (new.splits ≡ old.splits)
      × (new.ended ≡ old.ended) × StartsWith new.seen old.seen

module _ {O C R : Type 0} (ready : O → C → Bool) (sound : O → C → Type 0) (step : O → C → O × R) (opens : O → Type 0)
    (fit : O → ℕ → List (Entry O C R) → C → Type 0) where
  -- what the seat has seen is legal and fit, and its number's entries there are its own calls
  abbrev pub IsGood : CellView O → SeatView O C R → Type 0
  IsGood cell seat = Good ready sound step opens fit cell.terms seat.seen × (seat.mine ≡ of seat.number seat.seen)

  -- nothing was called, and no less is seen
  abbrev pub Looks : CellView O → SeatView O C R → SeatView O C R → Type 0
  Looks cell old new = IsLater old new × IsGood cell new × (new.mine ≡ old.mine)

  -- what is seen ends with the call, which is one more of the seat's
  abbrev pub Calls : CellView O → C → R → SeatView O C R → SeatView O C R → Type 0
  Calls cell call reply old new =
      IsLater old new × IsGood cell new × (new.mine ≡ old.mine ++ entry old.number call reply ∷ [])
      × ((between : List (Entry O C R)) × (new.seen ≡ (old.seen ++ between) ++ entry old.number call reply ∷ []))

  -- the whole history was seen, which has no room
  abbrev pub WornOut : CellView O → SeatView O C R → SeatView O C R → Type 0
  WornOut cell old new = Looks cell old new × (length new.seen ≡ cell.terms.length)

  -- what one try of a call leaves
  abbrev pub TriesOn : CellView O → C → SeatView O C R → SeatView O C R → Tried O C R → Type 0
  TriesOn cell call old new (Replied r) = Calls cell call r old new
  TriesOn cell call old new (Worn c) = (c ≡ call) × WornOut cell old new
  TriesOn cell call old new (NotYet c hold) = (c ≡ call) × Looks cell old new
