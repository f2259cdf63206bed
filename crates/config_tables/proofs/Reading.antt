-- The loop that reads the tables of a list.
use Rattle.std.proofs.Common.{◌≡◌, ℕ, ◌≤◌, List, [], ◌++◌, length, drop, Option, refl}
use Rattle.std.proofs.lemmas.List.{drop_all, append-nil}
use Rattle.toml.specs.Data.{Members}
use Rattle.toml.specs.View.{items_view}
use Rattle.toml.specs.declared.value.Value.{Value}
use Rattle.config_tables.specs.Fault.{Fault}
use Rattle.config_tables.specs.Judging.{entries_fault}
use Rattle.config_tables.specs.Values.{tables_in}
use Rattle.config_tables.specs.Means.{EachMeans}

-- the tables that are left from the i-th value on
abbrev pub left : List Value → ℕ → List Members
left vs i = tables_in (items_view (drop i vs))

-- what has been read, and what is left, are the whole
pub record Reads {E : Type 0} (fault : List ℕ → Members → Option Fault) (P : Members → E → Type 0) (path : List ℕ) (vs : List Value) (i : ℕ) (read : List E) : Type 0 where
  pub judged : entries_fault fault path (length read) (left vs i) ≡ entries_fault fault path 0 (tables_in (items_view vs))
  pub means : (more : List E) → EachMeans P (left vs i) more → EachMeans P (tables_in (items_view vs)) (read ++ more)
  pub few : length read ≤ i

pub each_read : {E : Type 0} (fault : List ℕ → Members → Option Fault) (P : Members → E → Type 0) (path : List ℕ) (vs : List Value) (i : ℕ) (read : List E)
    → length vs ≤ i → Reads fault P path vs i read → EachMeans P (tables_in (items_view vs)) read
each_read fault P path vs i read h r =
    let none : left vs i ≡ [] = rw (drop_all i vs h) refl in
    rw append-nil at (r.means [] (rw none tt))
