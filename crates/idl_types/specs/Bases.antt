-- Bases by places, as the walk along them sees them.
use Rattle.std.specs.Prelude.{ℕ, ◌==◌, Bool, false, List, [], slice_get}
use Rattle.std.specs.List.{list_any}
use Rattle.std.specs.Option.{option_map_or}
use Rattle.cdr_values.specs.Trees.{Name, Names}
use Rattle.idl_types.specs.Things.{Thing, bases_of}
use Rattle.idl_types.specs.Finding.{place_named}

-- whether the thing of an id is at a place
abbrev pub is_place : List Thing → ℕ → Name → Bool
is_place ts k id = option_map_or (λ i. i == k) (place_named ts id) false

-- the bases of the thing at a place
abbrev pub bases_at : List Thing → ℕ → Names
bases_at ts a = option_map_or bases_of (slice_get ts a) []

-- whether the thing at the first place names the one at the other as a base
abbrev pub is_base_at : List Thing → ℕ → ℕ → Bool
is_base_at ts a k = list_any (is_place ts k) (bases_at ts a)
