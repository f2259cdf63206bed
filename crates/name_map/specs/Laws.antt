-- Laws of the map of a name service.
use Rattle.std.specs.Prelude.{◌≡◌, ◌≢◌, ℕ, ◌<◌, ◌⊎◌, true, false, List, [], length, Option, Some, None, MatchOption}
use Rattle.turn_cell.specs.History.{of, replay, FitFrom}
use Rattle.name_map.specs.declared.binding.Binding.{Binding}
use Rattle.name_map.specs.declared.call.NamesCall.{NamesCall}
use Rattle.name_map.specs.declared.limits.TheConstants.{MAX_ENTRIES}
use Rattle.name_map.specs.Keys.{is_below, Below}
use Rattle.name_map.specs.Bindings.{Rises, find, has, put, out, above}
use Rattle.name_map.specs.Machine.{IsMap, step}
use Rattle.name_map.specs.Callers.{History, IsFit}

-- after any calls the list rises, and has no more keys than may be
abbrev pub StaysMap : Type 0
StaysMap = (bs : List Binding) (h : History) → IsMap bs → IsMap (replay step bs h)

-- a key that was bound has its target
abbrev pub BoundIsFound : Type 0
BoundIsFound = (key target : List ℕ) (bs : List Binding) → find key (put key target bs) ≡ Some target

-- every other key has what it had
abbrev pub OthersStayBound : Type 0
OthersStayBound = (key target other : List ℕ) (bs : List Binding) → other ≢ key → find other (put key target bs) ≡ find other bs

-- a key that was taken out isn't there
abbrev pub TakenIsGone : Type 0
TakenIsGone = (key : List ℕ) (bs : List Binding) → find key (out key bs) ≡ None

-- every other key has what it had
abbrev pub OthersAreLeft : Type 0
OthersAreLeft = (key other : List ℕ) (bs : List Binding) → other ≢ key → find other (out key bs) ≡ find other bs

-- no key is above a text
abbrev pub HasNoneAbove : List ℕ → List Binding → Type 0
HasNoneAbove text bs = (other : List ℕ) → has other bs ≡ true → is_below text other ≡ false

-- a key is there, is above a text, and each other key above the text is above it too
abbrev pub IsLeastAbove : List ℕ → List Binding → List ℕ → Type 0
IsLeastAbove text bs key = (has key bs ≡ true) × Below text key
    × ((other : List ℕ) → has other bs ≡ true → Below text other → (key ≡ other) ⊎ Below key other)

-- the next key is the least one above the text, where there is any
abbrev pub NextIsLeast : Type 0
NextIsLeast = (text : List ℕ) (bs : List Binding) → Rises bs → MatchOption (above text bs) (HasNoneAbove text bs) (IsLeastAbove text bs)

-- where a fit call is still to come, a history of fit calls has room for it
abbrev pub HasRoom : Type 0
HasRoom = (opening : List Binding) (h : History) (n : ℕ) (call : NamesCall) → FitFrom IsFit opening [] h → IsFit opening n (of n h) call
    → length h < MAX_ENTRIES
