-- What is read of several parts, and what a word says by a table of words.
use Rattle.std.specs.Prelude.{ℕ, if◌then◌else◌, List, [], ◌∷◌, Option, Some, None}
use Rattle.std.specs.Str.{bytes_eq}

-- what a reading gives of a value, where there are both
abbrev pub option_ap : {A B : Type 0} → Option (A → B) → Option A → Option B
option_ap (Some f) (Some a) = Some (f a)
option_ap (Some f) None = None
option_ap None a = None

-- what a word says, by a table of words
abbrev pub choice : {A : Type 0} → List (List ℕ × A) → List ℕ → Option A
choice [] word = None
choice (row ∷ rows) word = if bytes_eq word row.0 then Some row.1 else choice rows word
