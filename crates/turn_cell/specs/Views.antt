-- What a seat at the table knows, and how its steps change it.
use Rattle.std.specs.Prelude.{ℕ, ◌+◌, true, false, if◌then◌else◌, List, [], ◌∷◌, length, ◌++◌, nat_le, Option, Some, None}
use Rattle.turn_cell.specs.declared.entry.Entry.{Entry}
use Rattle.turn_cell.specs.declared.board.Core.{Core}
use Rattle.turn_cell.specs.declared.board.Known.{Known}
use Rattle.turn_cell.specs.declared.board.Terms.{Terms}
use Rattle.turn_cell.specs.declared.board.Gone.{Gone}
use Rattle.turn_cell.specs.History.{of}

-- the heir of a number, where there is one
abbrev pub heir_in : (ℕ → ℕ → Option ℕ) → Option ℕ → ℕ → Option ℕ
heir_in heir (Some n) k = heir n k
heir_in heir None k = None

module _ {O C R : Type 0} where
  -- the first seat, before any call
  abbrev pub starting : Terms O → Known O C R
  starting x = record {
    terms = Some x;
    number = Some 0;
    turn = false;
    seen = [];
    mine = [];
    told = [];
    splits = 0;
    ended = [];
  }

  -- the turn is taken, and the whole history is seen
  abbrev pub looking : Known O C R → List (Entry O C R) → Known O C R
  looking v h = record v { turn = true; seen = h }

  -- the entries of a number, where there is one
  abbrev pub own : Option ℕ → List (Entry O C R) → List (Entry O C R)
  own (Some n) h = of n h
  own None h = []

  -- the turn is given back, and the whole history is seen
  abbrev pub resting : Known O C R → List (Entry O C R) → Known O C R
  resting v h = record v { turn = false; seen = h; mine = own v.number h }

  -- the turn is given back with the slot in hand
  abbrev pub after : Known O C R → List (ℕ × Option (Core O C R)) → Known O C R
  after v [] = v
  after v (x ∷ xs) = elim x.1 [ Some core ↦ resting v core.history.list.items | None ↦ v ]

  -- the longer of two histories
  abbrev pub longer : List (Entry O C R) → List (Entry O C R) → List (Entry O C R)
  longer a b = if nat_le (length b) (length a) then a else b

  -- one seat more was split from this one
  abbrev pub parted : Known O C R → Known O C R
  parted v = record v { splits = v.splits + 1 }

  -- the next seat that is split from this one
  abbrev pub child : (ℕ → ℕ → Option ℕ) → Known O C R → Known O C R
  child heir v = record {
    terms = v.terms;
    number = heir_in heir v.number v.splits;
    turn = false;
    seen = v.seen;
    mine = [];
    told = [];
    splits = 0;
    ended = [];
  }

  -- what a seat leaves that is joined, if it has a number
  abbrev pub gone_of : Option ℕ → List (Entry O C R) → ℕ → List (Gone O C R)
  gone_of (Some n) calls k = record { number = n; calls = calls; splits = k } ∷ []
  gone_of None calls k = []

  -- the first takes in what the second had
  abbrev pub joined : Known O C R → Known O C R → Known O C R
  joined v w = record v { told = w.seen; ended = v.ended ++ (gone_of w.number w.mine w.splits ++ w.ended) }

  -- what stays of a seat that was joined
  abbrev pub spent : Known O C R
  spent = record {
    terms = None;
    number = None;
    turn = false;
    seen = [];
    mine = [];
    told = [];
    splits = 0;
    ended = [];
  }

  -- what was seen, with no number
  abbrev pub note : Known O C R → Known O C R
  note v = record {
    terms = None;
    number = None;
    turn = false;
    seen = v.seen;
    mine = [];
    told = [];
    splits = 0;
    ended = [];
  }

  -- the first is given what the second saw
  abbrev pub telling : Known O C R → Known O C R → Known O C R
  telling v w = record v { told = w.seen }

  -- what was given is taken in, if it is more
  abbrev pub hearing : Known O C R → Known O C R
  hearing v = record v { seen = longer v.seen v.told; told = [] }
