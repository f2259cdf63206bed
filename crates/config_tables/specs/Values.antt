-- What is wrong with the value of a key.
use Rattle.std.specs.Prelude.{ℕ, pos, negsuc, Bool, true, false, not, ◌&&◌, nat_le, nat_eq, int_le, List, [], ◌∷◌, length, Option, Some, None, option_map, if◌then◌else◌}
use Rattle.std.specs.List.{list_any}
use Rattle.toml.specs.Data.{Data, string, integer, boolean, array, table, Items, no_items, item, Members}
use Rattle.config_tables.specs.Fault.{Fault, at_path}
use Rattle.config_tables.specs.Keys.{is_among}
use Rattle.config_tables.specs.Rules.{Scalar, text, word, truth, number, native}
use Rattle.config_tables.specs.Standing.{Standing, is_due, is_free, is_excluded}
use Rattle.config_tables.specs.declared.fault.ConfigCause.{ConfigCause}
use Rattle.config_tables.specs.declared.fault.ConfigCause.TheVariants.{Missing, WrongKind, OutOfRange}

-- a key that has to be there
abbrev due_cause : (Data → Option ConfigCause) → Option Data → Option ConfigCause
due_cause judge None = Some Missing
due_cause judge (Some d) = judge d

-- a key that may be there
abbrev free_cause : (Data → Option ConfigCause) → Option Data → Option ConfigCause
free_cause judge None = None
free_cause judge (Some d) = judge d

-- a key that may not be there
abbrev excluded_cause : Option Data → Option ConfigCause
excluded_cause None = None
excluded_cause (Some d) = Some WrongKind

-- what is wrong at a key that is so and holds this, where `judge` judges what is there
abbrev pub key_cause : (Data → Option ConfigCause) → Standing → Option Data → Option ConfigCause
key_cause judge is_due d = due_cause judge d
key_cause judge is_free d = free_cause judge d
key_cause judge is_excluded d = excluded_cause d

-- the cause of a value that has to be in range
abbrev pub in_range : Bool → Option ConfigCause
in_range true = None
in_range false = Some OutOfRange

-- whether a number lies between two, ends included
abbrev pub is_between : ℕ → ℕ → ℕ → Bool
is_between low high n = nat_le low n && nat_le n high

-- what is wrong with a scalar
abbrev pub scalar_cause : Scalar → Data → Option ConfigCause
scalar_cause (text low high) (string s) = in_range (is_between low high (length s) && not (list_any (λ b. nat_eq b 0) s))
scalar_cause (word ws) (string s) = in_range (is_among ws s)
scalar_cause truth (boolean b) = None
scalar_cause (number low high) (integer (pos n)) = in_range (is_between low high n)
scalar_cause (number low high) (integer (negsuc n)) = Some OutOfRange
scalar_cause native (integer z) = in_range (int_le (negsuc 2147483647) z && int_le z (pos 2147483647))
scalar_cause _ _ = Some WrongKind

-- the cause at a path
abbrev pub fault_at : List ℕ → Option ConfigCause → Option Fault
fault_at path cause = option_map (at_path path) cause

-- the tables among some items
abbrev pub tables_in : Items → List Members
tables_in no_items = []
tables_in (item (table ms) ds) = ms ∷ tables_in ds
tables_in (item _ ds) = tables_in ds

-- whether each item is a table
abbrev pub are_tables : Items → Bool
are_tables no_items = true
are_tables (item (table ms) ds) = are_tables ds
are_tables (item _ ds) = false

-- the tables of a list
abbrev pub tables_at : Option Data → List Members
tables_at (Some (array ds)) = tables_in ds
tables_at _ = []

-- what is wrong with a table
abbrev pub table_cause : Data → Option ConfigCause
table_cause (table ms) = None
table_cause _ = Some WrongKind

-- what is wrong with a list of so many tables
abbrev pub list_cause : ℕ → ℕ → Data → Option ConfigCause
list_cause low high (array ds) = if are_tables ds then in_range (is_between low high (length (tables_in ds))) else Some WrongKind
list_cause low high _ = Some WrongKind
