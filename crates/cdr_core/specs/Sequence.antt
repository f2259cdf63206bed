-- Readings one after the other, over any error.
use Rattle.std.specs.Prelude.{◌≡◌, ℕ, zero, suc, List, [], ◌∷◌, Result, Ok, Err}
use Rattle.cdr_core.specs.Cursor.{Cursor}

-- a value and the cursor after it, or the first fault
abbrev pub Parsed : Type 0 → Type 0 → Type 0
Parsed E A = Result (A × Cursor) E

infixl 10 ◌>>=◌
-- one reading after another; the first fault ends both
abbrev pub ◌>>=◌ : {E A B : Type 0} → Result A E → (A → Result B E) → Result B E
(Ok x) >>= f = f x
(Err e) >>= f = Err e

-- so many, one after the other
unfoldable pub times : {E A : Type 0} → (Cursor → Parsed E A) → ℕ → Cursor → Parsed E (List A)
times one zero c = Ok ([], c)
times one (suc n) c = do
  first ← one c
  others ← times one n first.1
  Ok (first.0 ∷ others.0, others.1)

-- the same value of an error of another type
abbrev pub told_as : {E F A : Type 0} → (E → F) → Result A E → Result A F
told_as name (Ok x) = Ok x
told_as name (Err e) = Err (name e)

-- the cursor after what is read, or the first fault
abbrev pub behind : {E A : Type 0} → Parsed E A → Result Cursor E
behind (Ok x) = Ok x.1
behind (Err e) = Err e

-- a call that passes over what is read, and gives none of it, leaves the cursor after it, or gives the first fault
abbrev pub Leaves : {E A : Type 0} → Result (Unit {0}) E → Cursor → Parsed E A → Type 0
Leaves (Ok done) new reading = behind reading ≡ Ok new
Leaves (Err e) new reading = behind reading ≡ Err e
