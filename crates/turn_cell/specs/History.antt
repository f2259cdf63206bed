-- What a history of calls means, for any object: O is its state, C its calls and R its replies.
use Rattle.std.specs.Prelude.{◌≡◌, ℕ, ◌==◌, Bool, true, if◌then◌else◌, List, [], ◌∷◌, ◌++◌}
use Rattle.turn_cell.specs.declared.entry.Entry.{Entry}

module _ {O C R : Type 0} where
  -- the entries of one caller
  abbrev pub of : ℕ → List (Entry O C R) → List (Entry O C R)
  of n [] = []
  of n (e ∷ es) = if e.caller == n then e ∷ of n es else of n es

  -- a history begins with what was seen
  abbrev pub StartsWith : List (Entry O C R) → List (Entry O C R) → Type 0
  StartsWith h seen = (rest : List (Entry O C R)) × (h ≡ seen ++ rest)

module _ {O C R : Type 0} (step : O → C → O × R) where
  -- the state after a history
  abbrev pub replay : O → List (Entry O C R) → O
  replay x [] = x
  replay x (e ∷ es) = replay (step x e.call).0 es

module _ {O C R : Type 0} (ready : O → C → Bool) (sound : O → C → Type 0) (step : O → C → O × R) where
  -- each call was ready and sound where it was made, and its reply is the step's there
  abbrev pub Legal : O → List (Entry O C R) → Type 0
  Legal x [] = Unit {0}
  Legal x (e ∷ es) =
      (ready x e.call ≡ true) × sound x e.call × (e.reply ≡ (step x e.call).1) × Legal (step x e.call).0 es

module _ {O C R : Type 0} (fit : O → ℕ → List (Entry O C R) → C → Type 0) (opening : O) where
  -- each call was fit by its caller's own calls before it; the first list is before the second
  abbrev pub FitFrom : List (Entry O C R) → List (Entry O C R) → Type 0
  FitFrom before [] = Unit {0}
  FitFrom before (e ∷ es) = fit opening e.caller (of e.caller before) e.call × FitFrom (before ++ e ∷ []) es

module _ {O C R : Type 0} (ready : O → C → Bool) (sound : O → C → Type 0) (step : O → C → O × R)
    (opens : O → Type 0) (fit : O → ℕ → List (Entry O C R) → C → Type 0) where
  -- after each legal history in which every call was fit, a fit call is sound
  abbrev pub IsEnough : Type 0
  IsEnough = (opening : O) (h : List (Entry O C R)) (n : ℕ) (call : C) → opens opening
      → Legal ready sound step opening h → FitFrom fit opening [] h → fit opening n (of n h) call
      → sound (replay step opening h) call
