-- The reading of what contexts and policies carry, from left to right; what has no reading is None.
use Rattle.std.specs.Prelude.{ℕ, ◌^◌, List, Option, Some, None, option_and_then, nat_lt}
use Rattle.std.specs.Prelude.{if◌then◌else◌}
use Rattle.std.specs.Option.{ok_or}
use Rattle.std.specs.Result.{result_ok}
use Rattle.std.specs.Int.{w16, w32}
use Rattle.orb_base.specs.Span.{Span}
use Rattle.orb_base.specs.Priorities.{model_of}
use Rattle.cdr_core.specs.Cursor.{Cursor}
use Rattle.cdr_core.specs.Reading.{number_at, count_at, entered}
use Rattle.cdr_core.specs.Sequence.{Parsed, times}
use Rattle.service_contexts.specs.Layout.{ModelValue}

-- a value and the cursor after it, or no reading
abbrev pub Taken : Type 0 → Type 0
Taken A = Option (A × Cursor)

infixl 10 ◌>>=◌
-- one reading after another; both want a value
abbrev pub ◌>>=◌ : {A B : Type 0} → Option A → (A → Option B) → Option B
taken >>= f = option_and_then f taken

-- a priority: a short that isn't negative
unfoldable pub priority_at : Cursor → Taken ℕ
priority_at c = do
  short ← result_ok (number_at w16 c)
  if nat_lt short.0 (2 ^ 15) then Some short else None

-- a band: two priorities, the low end and then the high one, which isn't below it
unfoldable pub band_at : Cursor → Taken Span
band_at c = do
  low ← priority_at c
  high ← priority_at low.1
  if nat_lt high.0 low.0 then None else Some (record { low = low.0; high = high.0 }, high.1)

-- the number of a priority model, and a priority
unfoldable pub model_at : Cursor → Taken ModelValue
model_at c = do
  number ← result_ok (number_at w32 c)
  model ← model_of number.0
  level ← priority_at number.1
  Some ((model, level.0), level.1)

-- the same reading, whose one error is want of a value
abbrev pub or_refused : {A : Type 0} → (Cursor → Taken A) → Cursor → Parsed (Unit {0}) A
or_refused one c = ok_or (one c) tt

-- bands after their number
unfoldable pub bands_at : Cursor → Taken (List Span)
bands_at c = do
  count ← result_ok (count_at c)
  result_ok (times (or_refused band_at) count.0 count.1)

-- a value in the encapsulation that the bytes are; what is after it is ignored
unfoldable pub carried : {A : Type 0} → (Cursor → Taken A) → List ℕ → Option A
carried one bytes = do
  inner ← result_ok (entered bytes)
  value ← one inner
  Some value.0
