-- Where a key is in a list that rises, or would be.
use Rattle.std.specs.Prelude.{ℕ, suc, Bool, false, List, [], ◌∷◌, slice_get, Option, Some, None, if◌then◌else◌}
use Rattle.std.specs.Str.{bytes_eq}
use Rattle.name_map.specs.declared.binding.Binding.{Binding}
use Rattle.name_map.specs.Keys.{is_below}

-- how many keys at the beginning are below a key
abbrev pub place : List ℕ → List Binding → ℕ
place key [] = 0
place key (b ∷ bs) = if is_below b.key key then suc (place key bs) else 0

-- whether a binding is there and has this key
abbrev pub is_of : List ℕ → Option Binding → Bool
is_of key None = false
is_of key (Some b) = bytes_eq b.key key

-- whether the key is at its place
abbrev pub is_there : List ℕ → List Binding → Bool
is_there key bs = is_of key (slice_get bs (place key bs))

-- the place after the key, where it is there, or else where it would be
abbrev pub next_place : List ℕ → List Binding → ℕ
next_place key bs = if is_there key bs then suc (place key bs) else place key bs
