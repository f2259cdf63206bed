-- A table without a fault meets each of its rules.
use Rattle.std.proofs.Common.{rules, ◌≡◌, ◌≢◌, ◌≤◌, ◌≤ℤ◌, ◌+◌, ◌==◌, ℕ, ℤ, pos, negsuc, Bool, true, false, not, ◌&&◌, ◌||◌, nat_le, nat_eq, int_le, List, [], ◌∷◌, length, map, Option, Some, None, option_map, refl, sym, subst, arith}
use Rattle.std.specs.List.{All, AllByRecursion, Any, Contains, list_any}
use Rattle.std.proofs.lemmas.Bool.Decides.{nat_tests}
use Rattle.std.proofs.lemmas.List.Elements.{All-cons, All-nil}
use Rattle.std.proofs.lemmas.List.Folds.{Any-from_list_any}
use Rattle.std.proofs.lemmas.Slice.Eq.{bytes_eq-Decides}
use Rattle.toml.specs.Data.{Data, string, integer, float, boolean, datetime, array, table, Items, Members, get_member}
use Rattle.config_tables.specs.Fault.{Fault, first_of}
use Rattle.config_tables.specs.Holding.{AreTables, Fits, IsTable, KeyHolds, KindHolds, RuleHolds, SectionHolds, Stands, TableHolds, TablesHold}
use Rattle.config_tables.specs.Judging.{entries_fault, key_fault, keys_fault, kind_fault, rule_fault, section_fault, sections_fault, table_fault, tables_fault}
use Rattle.config_tables.specs.Keys.{is_among, same_text, unknown_fault, unknown_key}
use Rattle.config_tables.specs.Laws.{AreKnown}
use Rattle.config_tables.specs.Path.{entry_path, key_path}
use Rattle.config_tables.specs.Rules.{Scalar, text, word, truth, number, native, Rule, Kind, one, entries, section, sections}
use Rattle.config_tables.specs.Standing.{Standing, is_due, is_free, is_excluded, standing}
use Rattle.config_tables.specs.Values.{are_tables, fault_at, in_range, is_between, key_cause, list_cause, scalar_cause, table_cause, tables_at, tables_in}
use Rattle.config_tables.specs.declared.fault.ConfigCause.{ConfigCause}
use Rattle.config_tables.proofs.LeastKey.{all_known}

-- neither of two parts has a fault
pub both_none : (x y : Option Fault) → first_of x y ≡ None → (x ≡ None) × (y ≡ None)
both_none None y none = (refl, none)
both_none (Some f) y none = absurd (cc)

no_cause : (path : List ℕ) (cause : Option ConfigCause) → fault_at path cause ≡ None → cause ≡ None
no_cause path None none = refl
no_cause path (Some c) none = absurd (cc)

in_range_of : (b : Bool) → in_range b ≡ None → b ≡ true
in_range_of true none = refl
in_range_of false none = absurd (cc)

pub and_both : (a b : Bool) → (a && b) ≡ true → (a ≡ true) × (b ≡ true)
and_both true b h = (refl, h)
and_both false b h = absurd (cc)

not_holds : (b : Bool) → not b ≡ true → b ≡ false
not_holds false h = refl
not_holds true h = absurd (cc)

pub or_neither : (a b : Bool) → (a || b) ≡ false → (a ≡ false) × (b ≡ false)
or_neither false b h = (refl, h)
or_neither true b h = absurd (cc)

le_of : (a b : ℕ) → nat_le a b ≡ true → a ≤ b
le_of a b h = grind (arith, nat_tests)

between : (low high n : ℕ) → is_between low high n ≡ true → (low ≤ n) × (n ≤ high)
between low high n h =
    let ends = and_both (nat_le low n) (nat_le n high) h in
    (le_of low n ends.0, le_of n high ends.1)

no_zero : (b : ℕ) → nat_eq b 0 ≡ false → b ≢ 0
no_zero b h same = grind (arith, nat_tests)

no_nul : (s : List ℕ) → list_any (λ b. nat_eq b 0) s ≡ false → All (λ b. b ≢ 0) s
no_nul [] none = All-nil _
no_nul (b ∷ s) none =
    let parts = or_neither (nat_eq b 0) (list_any (λ x. nat_eq x 0) s) none in
    All-cons (λ x. x ≢ 0) b s (no_zero b parts.0) (no_nul s parts.1)

text_fits : (low high : ℕ) (s : List ℕ) → (is_between low high (length s) && not (list_any (λ b. nat_eq b 0) s)) ≡ true → Fits (text low high) (string s)
text_fits low high s h =
    let parts = and_both (is_between low high (length s)) _ h in
    let ends = between low high (length s) parts.0 in
    (ends.0, ends.1, no_nul s (not_holds _ parts.1))

contains_of : (ws : List (List ℕ)) (s : List ℕ) → Any (λ l. same_text l s ≡ true) ws → Contains ws s
contains_of ws s (k, x, within, at, same) =
    let is : x ≡ s = (bytes_eq-Decides x s).0 same in
    subst (λ (y : List ℕ). Contains ws y) is (k, within, at)

ends_of : (z : ℤ) → (int_le (negsuc 2147483647) z && int_le z (pos 2147483647)) ≡ true → Fits native (integer z)
ends_of z h =
    let parts = and_both (int_le (negsuc 2147483647) z) (int_le z (pos 2147483647)) h in
    (search rules, search rules)

-- a scalar without a cause fits
fits_of : (s : Scalar) (d : Data) → scalar_cause s d ≡ None → Fits s d
fits_of (text low high) (string s) none = text_fits low high s (in_range_of _ none)
fits_of (text low high) (integer z) none = absurd (cc)
fits_of (text low high) (float x) none = absurd (cc)
fits_of (text low high) (boolean b) none = absurd (cc)
fits_of (text low high) (datetime t) none = absurd (cc)
fits_of (text low high) (array ds) none = absurd (cc)
fits_of (text low high) (table ms) none = absurd (cc)
fits_of (word ws) (string s) none = contains_of ws s (Any-from_list_any (λ l. same_text l s) ws (in_range_of (is_among ws s) none))
fits_of (word ws) (integer z) none = absurd (cc)
fits_of (word ws) (float x) none = absurd (cc)
fits_of (word ws) (boolean b) none = absurd (cc)
fits_of (word ws) (datetime t) none = absurd (cc)
fits_of (word ws) (array ds) none = absurd (cc)
fits_of (word ws) (table ms) none = absurd (cc)
fits_of truth (string s) none = absurd (cc)
fits_of truth (integer z) none = absurd (cc)
fits_of truth (float x) none = absurd (cc)
fits_of truth (boolean b) none = tt
fits_of truth (datetime t) none = absurd (cc)
fits_of truth (array ds) none = absurd (cc)
fits_of truth (table ms) none = absurd (cc)
fits_of (number low high) (string s) none = absurd (cc)
fits_of (number low high) (integer (pos n)) none = between low high n (in_range_of (is_between low high n) none)
fits_of (number low high) (integer (negsuc n)) none = absurd (cc)
fits_of (number low high) (float x) none = absurd (cc)
fits_of (number low high) (boolean b) none = absurd (cc)
fits_of (number low high) (datetime t) none = absurd (cc)
fits_of (number low high) (array ds) none = absurd (cc)
fits_of (number low high) (table ms) none = absurd (cc)
fits_of native (string s) none = absurd (cc)
fits_of native (integer z) none = ends_of z (in_range_of _ none)
fits_of native (float x) none = absurd (cc)
fits_of native (boolean b) none = absurd (cc)
fits_of native (datetime t) none = absurd (cc)
fits_of native (array ds) none = absurd (cc)
fits_of native (table ms) none = absurd (cc)

table_of : (d : Data) → table_cause d ≡ None → IsTable d
table_of (table ms) none = tt
table_of (string s) none = absurd (cc)
table_of (integer z) none = absurd (cc)
table_of (float x) none = absurd (cc)
table_of (boolean b) none = absurd (cc)
table_of (datetime t) none = absurd (cc)
table_of (array ds) none = absurd (cc)

many_step : (low high : ℕ) (ds : Items) (b : Bool) → are_tables ds ≡ b → list_cause low high (array ds) ≡ None → AreTables low high (array ds)
many_step low high ds true are none =
    let ends = between low high (length (tables_in ds)) (in_range_of _ (rw are at none)) in
    (are, ends.0, ends.1)
many_step low high ds false are none = let none2 = rw are at none in absurd (cc)

tables_of : (low high : ℕ) (d : Data) → list_cause low high d ≡ None → AreTables low high d
tables_of low high (array ds) none = many_step low high ds (are_tables ds) refl none
tables_of low high (string s) none = absurd (cc)
tables_of low high (integer z) none = absurd (cc)
tables_of low high (float x) none = absurd (cc)
tables_of low high (boolean b) none = absurd (cc)
tables_of low high (datetime t) none = absurd (cc)
tables_of low high (table ms) none = absurd (cc)

-- a key without a cause is as it has to
stands_of : (judge : Data → Option ConfigCause) (Is : Data → Type 0) → ((d : Data) → judge d ≡ None → Is d)
    → (st : Standing) (d : Option Data) → key_cause judge st d ≡ None → Stands Is st d
stands_of judge Is to is_due (Some d) none = to d none
stands_of judge Is to is_due None none = absurd (cc)
stands_of judge Is to is_free (Some d) none = to d none
stands_of judge Is to is_free None none = tt
stands_of judge Is to is_excluded (Some d) none = absurd (cc)
stands_of judge Is to is_excluded None none = tt

rule_holds : (r : Rule Scalar) (path : List ℕ) (ms : Members) → rule_fault r path ms ≡ None → RuleHolds r ms
rule_holds r path ms none = stands_of (scalar_cause r.kind) (Fits r.kind) (fits_of r.kind) (standing r.need ms) (get_member r.key ms) (no_cause (key_path path r.key) (key_cause (scalar_cause r.kind) (standing r.need ms) (get_member r.key ms)) none)

each_holds : {K : Type 0} (fault : Rule K → List ℕ → Members → Option Fault) (Holds : Rule K → Members → Type 0)
    → ((r : Rule K) (path : List ℕ) (ms : Members) → fault r path ms ≡ None → Holds r ms)
    → (rules : List (Rule K)) (path : List ℕ) (ms : Members) → keys_fault fault rules path ms ≡ None → AllByRecursion (λ r. Holds r ms) rules
each_holds fault Holds to [] path ms none = tt
each_holds fault Holds to (r ∷ rules) path ms none =
    let parts = both_none (fault r path ms) (keys_fault fault rules path ms) none in
    (to r path ms parts.0, each_holds fault Holds to rules path ms parts.1)

none_unknown : (known : List (List ℕ)) (path : List ℕ) (ms : Members) (found : Option (List ℕ)) → unknown_key known ms ≡ found → unknown_fault known path ms ≡ None → unknown_key known ms ≡ None
none_unknown known path ms None is none = is
none_unknown known path ms (Some k) is none = let told = rw is at none in absurd (cc)

table_holds : {K : Type 0} (fault : Rule K → List ℕ → Members → Option Fault) (Holds : Rule K → Members → Type 0)
    → ((r : Rule K) (path : List ℕ) (ms : Members) → fault r path ms ≡ None → Holds r ms)
    → (rules : List (Rule K)) (path : List ℕ) (ms : Members) → table_fault fault rules path ms ≡ None → TableHolds Holds rules ms
table_holds fault Holds to rules path ms none =
    let known : List (List ℕ) = map (λ r. r.key) rules in
    let parts = both_none (unknown_fault known path ms) (keys_fault fault rules path ms) none in
    record {
      known = all_known known ms (none_unknown known path ms (unknown_key known ms) refl parts.0);
      each = each_holds fault Holds to rules path ms parts.1;
    }

entries_hold : (fault : List ℕ → Members → Option Fault) (P : Members → Type 0) → ((path : List ℕ) (ms : Members) → fault path ms ≡ None → P ms)
    → (path : List ℕ) (n : ℕ) (list : List Members) → entries_fault fault path n list ≡ None → AllByRecursion P list
entries_hold fault P to path n [] none = tt
entries_hold fault P to path n (ms ∷ more) none =
    let parts = both_none (fault (entry_path path n) ms) (entries_fault fault path (n + 1) more) none in
    (to (entry_path path n) ms parts.0, entries_hold fault P to path (n + 1) more parts.1)

kind_holds : (kind : Kind) (path : List ℕ) (st : Standing) (d : Option Data) → kind_fault kind path st d ≡ None → KindHolds kind st d
kind_holds (one s) path st d none = stands_of (scalar_cause s) (Fits s) (fits_of s) st d (no_cause path (key_cause (scalar_cause s) st d) none)
kind_holds section path st d none = stands_of table_cause IsTable table_of st d (no_cause path (key_cause table_cause st d) none)
kind_holds (sections low high) path st d none = stands_of (list_cause low high) (AreTables low high) (tables_of low high) st d (no_cause path (key_cause (list_cause low high) st d) none)
kind_holds (entries low high rules) path st d none =
    let parts = both_none (fault_at path (key_cause (list_cause low high) st d)) (entries_fault (table_fault rule_fault rules) path 0 (tables_at d)) none in (
      stands_of (list_cause low high) (AreTables low high) (tables_of low high) st d (no_cause path (key_cause (list_cause low high) st d) parts.0),
      entries_hold (table_fault rule_fault rules) (TableHolds RuleHolds rules) (table_holds rule_fault RuleHolds rule_holds rules) path 0 (tables_at d) parts.1,
    )

key_holds : (r : Rule Kind) (path : List ℕ) (ms : Members) → key_fault r path ms ≡ None → KeyHolds r ms
key_holds r path ms none = kind_holds r.kind (key_path path r.key) (standing r.need ms) (get_member r.key ms) none

section_holds : (rules : List (Rule Kind)) (path : List ℕ) (d : Option Data) → section_fault rules path d ≡ None → SectionHolds rules d
section_holds rules path (Some (table ms)) none = table_holds key_fault KeyHolds key_holds rules path ms none
section_holds rules path (Some (array ds)) none =
    entries_hold (table_fault key_fault rules) (TableHolds KeyHolds rules) (table_holds key_fault KeyHolds key_holds rules) path 0 (tables_in ds) none
section_holds rules path (Some (string s)) none = tt
section_holds rules path (Some (integer z)) none = tt
section_holds rules path (Some (float x)) none = tt
section_holds rules path (Some (boolean b)) none = tt
section_holds rules path (Some (datetime t)) none = tt
section_holds rules path None none = tt

sections_hold : (tables : List (List ℕ × List (Rule Kind))) (ms : Members) → sections_fault tables ms ≡ None → AllByRecursion (λ s. SectionHolds s.1 (get_member s.0 ms)) tables
sections_hold [] ms none = tt
sections_hold (s ∷ more) ms none =
    let parts = both_none (section_fault s.1 s.0 (get_member s.0 ms)) (sections_fault more ms) none in
    (section_holds s.1 s.0 (get_member s.0 ms) parts.0, sections_hold more ms parts.1)

-- a document without a fault holds
pub tables_hold : (top : List (Rule Kind)) (tables : List (List ℕ × List (Rule Kind))) (ms : Members) → tables_fault top tables ms ≡ None → TablesHold top tables ms
tables_hold top tables ms none =
    let parts = both_none (table_fault key_fault top [] ms) (sections_fault tables ms) none in
    record { own = table_holds key_fault KeyHolds key_holds top [] ms parts.0; each = sections_hold tables ms parts.1 }
