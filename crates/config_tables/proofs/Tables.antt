-- Lists of which each item is a table.
use Rattle.std.proofs.Common.{◌≡◌, ℕ, true, false, ◌&&◌, suc, List, [], ◌∷◌, length, Some, is_some, refl, ap, ◌∙◌}
use Rattle.std.specs.List.{list_all}
use Rattle.toml.specs.Data.{Data, Items, item, table, string, integer, float, boolean, datetime, array, as_table}
use Rattle.toml.specs.View.{view, items_view}
use Rattle.toml.specs.declared.value.Value.{Value}
use Rattle.config_tables.specs.declared.fault.ConfigCause.TheVariants.{WrongKind}
use Rattle.config_tables.specs.Values.{are_tables, tables_in, list_cause, in_range, is_between}

first_table : (d : Data) (ds : Items) → are_tables (item d ds) ≡ (is_some (as_table d) && are_tables ds)
first_table (table ms) ds = refl
first_table (string s) ds = refl
first_table (integer z) ds = refl
first_table (float x) ds = refl
first_table (boolean b) ds = refl
first_table (datetime x) ds = refl
first_table (array es) ds = refl

pub all_tables : (vs : List Value) → are_tables (items_view vs) ≡ list_all (λ v. is_some (as_table (view v))) vs
all_tables [] = refl
all_tables (v ∷ vs) = first_table (view v) (items_view vs) ∙ ap (λ b. is_some (as_table (view v)) && b) (all_tables vs)

counted : (d : Data) (ds : Items) (n : ℕ) → (are_tables ds ≡ true → length (tables_in ds) ≡ n) → are_tables (item d ds) ≡ true → length (tables_in (item d ds)) ≡ suc n
counted (table ms) ds n ih h = ap suc (ih h)
counted (string s) ds n ih h = absurd (cc)
counted (integer z) ds n ih h = absurd (cc)
counted (float x) ds n ih h = absurd (cc)
counted (boolean b) ds n ih h = absurd (cc)
counted (datetime x) ds n ih h = absurd (cc)
counted (array es) ds n ih h = absurd (cc)

pub all_counted : (vs : List Value) → are_tables (items_view vs) ≡ true → length (tables_in (items_view vs)) ≡ length vs
all_counted [] h = refl
all_counted (v ∷ vs) h = counted (view v) (items_view vs) (length vs) (all_counted vs) h

pub listed_other : (low high : ℕ) (vs : List Value) → list_all (λ v. is_some (as_table (view v))) vs ≡ false → list_cause low high (array (items_view vs)) ≡ Some WrongKind
listed_other low high vs h = rw (all_tables vs, h)

pub listed : (low high : ℕ) (vs : List Value) → list_all (λ v. is_some (as_table (view v))) vs ≡ true → list_cause low high (array (items_view vs)) ≡ in_range (is_between low high (length vs))
listed low high vs h = let all = all_tables vs ∙ h in rw (all, all_counted vs all)
