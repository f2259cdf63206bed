-- What a key holds, as a reader gives it. Where the key holds nothing of its kind, which no table without a fault has, a value
-- is in for it.
use Rattle.std.specs.Prelude.{ℕ, ℤ, pos, Bool, false, List, [], Option, Some, None}
use Rattle.toml.specs.Data.{Data, string, integer, boolean, table, Members, no_members, get_member}

-- the bytes of a text
abbrev pub text_of : Option Data → List ℕ
text_of (Some (string s)) = s
text_of _ = []

-- the text at a key
abbrev pub text_at : List ℕ → Members → List ℕ
text_at k ms = text_of (get_member k ms)

-- a number that isn't negative
abbrev pub number_of : Option Data → ℕ
number_of (Some (integer (pos n))) = n
number_of _ = 0

-- the number at a key
abbrev pub number_at : List ℕ → Members → ℕ
number_at k ms = number_of (get_member k ms)

-- a number with a sign
abbrev pub native_of : Option Data → ℤ
native_of (Some (integer z)) = z
native_of _ = pos 0

-- the number with a sign at a key
abbrev pub native_at : List ℕ → Members → ℤ
native_at k ms = native_of (get_member k ms)

-- a truth value; false where there is none
abbrev pub truth_of : Option Data → Bool
truth_of (Some (boolean b)) = b
truth_of _ = false

-- the truth value at a key
abbrev pub truth_at : List ℕ → Members → Bool
truth_at k ms = truth_of (get_member k ms)

-- a value where the key is there
abbrev pub where_there : {A : Type 0} → (Option Data → A) → Option Data → Option A
where_there read None = None
where_there read (Some d) = Some (read (Some d))

-- the members of a table
abbrev pub members_of : Option Data → Members
members_of (Some (table ms)) = ms
members_of _ = no_members
