-- What the judging of keys means to a reader.
use Rattle.std.specs.Prelude.{◌≡◌, ◌⊎◌, ℕ, true, false, List, Contains}
use Rattle.std.specs.Cmp.Lexicographic.{slice_cmp}
use Rattle.std.specs.Ordering.{is_lt, nat_cmp}
use Rattle.toml.specs.Data.{Members}
use Rattle.config_tables.specs.Keys.{is_among, keys_in}

-- a key comes before another by its bytes, or is the same
abbrev pub IsAtMost : List ℕ → List ℕ → Type 0
IsAtMost k other = (other ≡ k) ⊎ (is_lt (slice_cmp nat_cmp k other) ≡ true)

-- a table has this key, which is none of these, and it is the least such key by its bytes
pub record IsLeastUnknown (known : List (List ℕ)) (ms : Members) (k : List ℕ) : Type 0 where
  pub there : Contains (keys_in ms) k
  pub unknown : is_among known k ≡ false
  pub least : (other : List ℕ) → Contains (keys_in ms) other → is_among known other ≡ false → IsAtMost k other

-- each key of a table is one of these
abbrev pub AreKnown : List (List ℕ) → Members → Type 0
AreKnown known ms = (k : List ℕ) → Contains (keys_in ms) k → is_among known k ≡ true
