-- The first line at fault in an input of traces. Own profile.
use Rattle.std.specs.Prelude.{◌≡◌, ◌⊎◌, ◌+◌, ℕ, ◌==◌, Bool, true, List, [], ◌∷◌, ◌++◌, length, take, Option, Some, None, position}
use Rattle.trace_reading.specs.Traces.{Trace, AreTraces, MayBegin}

-- a line feed
abbrev pub is_feed : ℕ → Bool
is_feed b = b == 10

-- nothing, or lines that each have their line feed
abbrev pub IsWholeLines : List ℕ → Type 0
IsWholeLines bytes = (bytes ≡ []) ⊎ ((before : List ℕ) × (bytes ≡ before ++ 10 ∷ []))

-- after whole lines with which an input may begin, the next one, of which the feed is at this place, makes that no input begins so; or
-- where no feed comes any more, the input has ended and isn't traces
abbrev pub GoesWrong : Bool → List ℕ → List ℕ → Option ℕ → Type 0
GoesWrong ended before after (Some n) = ¬ MayBegin (before ++ take (n + 1) after)
GoesWrong ended before after None = (ended ≡ true) × ((ts : List Trace) → ¬ AreTraces (before ++ after) ts)

-- the first line at fault of an input begins at this offset: whole lines are before it with which an input may begin, and it may not go on
-- so. At the end of the input that is a line without its line feed, or the length of the input where a run lacks lines
pub record FaultAt (bytes : List ℕ) (ended : Bool) (at : ℕ) : Type 0 where
  pub before : List ℕ
  pub after : List ℕ
  pub parts : bytes ≡ before ++ after
  pub place : at ≡ length before
  pub lines : IsWholeLines before
  pub begins : MayBegin before
  pub wrong : GoesWrong ended before after (position is_feed after)
