-- The keys of a table.
use Rattle.std.specs.Prelude.{ℕ, Bool, not, nat_eq, List, [], ◌∷◌, Option, option_map}
use Rattle.std.specs.List.{list_any, find}
use Rattle.std.specs.Cmp.Lexicographic.{pointwise}
use Rattle.toml.specs.Data.{Members, no_members, member}
use Rattle.config_tables.specs.Fault.{Fault, at_path}
use Rattle.config_tables.specs.Path.{key_path}
use Rattle.config_tables.specs.declared.fault.ConfigCause.TheVariants.{UnknownKey}

-- two texts have the same bytes
abbrev pub same_text : List ℕ → List ℕ → Bool
same_text = pointwise nat_eq

-- whether a text is one of some
abbrev pub is_among : List (List ℕ) → List ℕ → Bool
is_among known k = list_any (λ l. same_text l k) known

-- the keys of a table, which ascend by bytes
abbrev pub keys_in : Members → List (List ℕ)
keys_in no_members = []
keys_in (member k d ms) = k ∷ keys_in ms

-- the first key that is none of these: the keys ascend, so it is the least
abbrev pub unknown_key : List (List ℕ) → Members → Option (List ℕ)
unknown_key known ms = find (λ k. not (is_among known k)) (keys_in ms)

-- the fault of a table that has an unknown key
abbrev pub unknown_fault : List (List ℕ) → List ℕ → Members → Option Fault
unknown_fault known path ms = option_map (λ k. at_path (key_path path k) UnknownKey) (unknown_key known ms)
