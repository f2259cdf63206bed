-- What a table without a fault says of its keys, as a reader would say it: own profile.
use Rattle.std.specs.Prelude.{◌≡◌, ◌≢◌, ◌≤◌, ◌≤ℤ◌, ℕ, ℤ, pos, negsuc, true, ⊤, List, map, length, All, Contains, Option, Some, None}
use Rattle.std.specs.List.{AllByRecursion}
use Rattle.toml.specs.Data.{Data, string, integer, boolean, array, table, Members, get_member}
use Rattle.config_tables.specs.Laws.{AreKnown}
use Rattle.config_tables.specs.Rules.{Scalar, text, word, truth, number, native, Rule, Kind, one, entries, section, sections}
use Rattle.config_tables.specs.Standing.{Standing, is_due, is_free, is_excluded, standing}
use Rattle.config_tables.specs.Values.{are_tables, tables_at, tables_in}

-- a value is of its kind, and in its range
abbrev pub Fits : Scalar → Data → Type 0
Fits (text low high) (string s) = (low ≤ length s) × (length s ≤ high) × All (λ b. b ≢ 0) s
Fits (word ws) (string s) = Contains ws s
Fits truth (boolean b) = ⊤
Fits (number low high) (integer (pos n)) = (low ≤ n) × (n ≤ high)
Fits native (integer z) = (negsuc 2147483647 ≤ℤ z) × (z ≤ℤ pos 2147483647)
Fits _ _ = ⊥

-- a value is a table
abbrev pub IsTable : Data → Type 0
IsTable (table ms) = ⊤
IsTable _ = ⊥

-- a value is a list of tables, so many
abbrev pub AreTables : ℕ → ℕ → Data → Type 0
AreTables low high (array ds) = (are_tables ds ≡ true) × (low ≤ length (tables_in ds)) × (length (tables_in ds) ≤ high)
AreTables low high _ = ⊥

-- a key that has to be there is there, one that may not be there isn't, and what is there is as it has to be
abbrev pub Stands : (Data → Type 0) → Standing → Option Data → Type 0
Stands Is is_due (Some d) = Is d
Stands Is is_due None = ⊥
Stands Is is_free (Some d) = Is d
Stands Is is_free None = ⊤
Stands Is is_excluded (Some d) = ⊥
Stands Is is_excluded None = ⊤

-- a key meets its rule
abbrev pub RuleHolds : Rule Scalar → Members → Type 0
RuleHolds r ms = Stands (Fits r.kind) (standing r.need ms) (get_member r.key ms)

-- each key of a table is known, and each rule is met
pub record TableHolds {K : Type 0} (Holds : Rule K → Members → Type 0) (rules : List (Rule K)) (ms : Members) : Type 0 where
  pub known : AreKnown (map (λ r. r.key) rules) ms
  pub each : AllByRecursion (λ r. Holds r ms) rules

-- a key is as its kind says, and so are the entries that are judged with it
abbrev pub KindHolds : Kind → Standing → Option Data → Type 0
KindHolds (one s) st d = Stands (Fits s) st d
KindHolds section st d = Stands IsTable st d
KindHolds (sections low high) st d = Stands (AreTables low high) st d
KindHolds (entries low high rules) st d = Stands (AreTables low high) st d × AllByRecursion (TableHolds RuleHolds rules) (tables_at d)

-- the same, of a line of a description
abbrev pub KeyHolds : Rule Kind → Members → Type 0
KeyHolds r ms = KindHolds r.kind (standing r.need ms) (get_member r.key ms)

-- a section holds: a table, or each of some entries
abbrev pub SectionHolds : List (Rule Kind) → Option Data → Type 0
SectionHolds rules (Some (table ms)) = TableHolds KeyHolds rules ms
SectionHolds rules (Some (array ds)) = AllByRecursion (TableHolds KeyHolds rules) (tables_in ds)
SectionHolds rules _ = ⊤

-- a document holds: its own keys, and each of its sections
pub record TablesHold (top : List (Rule Kind)) (tables : List (List ℕ × List (Rule Kind))) (ms : Members) : Type 0 where
  pub own : TableHolds KeyHolds top ms
  pub each : AllByRecursion (λ s. SectionHolds s.1 (get_member s.0 ms)) tables
