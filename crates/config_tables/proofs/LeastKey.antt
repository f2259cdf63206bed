-- The first unknown key of a table is the least.
use Rattle.std.proofs.Common.{◌≡◌, ◌⊎◌, ◌<◌, inl, inr, ℕ, zero, suc, Bool, true, false, not, List, [], ◌∷◌, length, get_or, Option, Some, None, cond, String, Global, string_bytes, refl, sym, subst, arith, Less, ◌∙◌, ap}
use Rattle.std.specs.BTreeMap.{BTreeMap, IsOrdered}
use Rattle.std.specs.List.{AllByRecursion, Contains, find}
use Rattle.std.specs.List.Sorted.{IsStrictlySortedBy}
use Rattle.std.specs.Cmp.Lexicographic.{slice_cmp}
use Rattle.std.specs.Map.{keys_of}
use Rattle.std.specs.Ordering.{is_lt, nat_cmp}
use Rattle.std.specs.String.{string_cmp}
use Rattle.toml.specs.Data.{Members}
use Rattle.toml.specs.View.{members_view, table_view}
use Rattle.toml.specs.declared.value.Value.{Value}
use Rattle.config_tables.specs.Keys.{is_among, keys_in, unknown_key}
use Rattle.config_tables.specs.Laws.{AreKnown, IsAtMost, IsLeastUnknown}

-- a key that each of some keys comes after
behind : (k : String Global) (es : List (String Global × Value)) → AllByRecursion (λ y. string_cmp k y ≡ Less) (keys_of es)
    → (other : List ℕ) → Contains (keys_in (members_view es)) other → is_lt (slice_cmp nat_cmp (string_bytes k) other) ≡ true
behind k [] after other (i, within, at) = absurd (omega arith)
behind k (e ∷ es) after other (zero, within, at) = subst (λ (x : List ℕ). is_lt (slice_cmp nat_cmp (string_bytes k) x) ≡ true) at (ap is_lt after.0)
behind k (e ∷ es) after other (suc i, within, at) = behind k es after.1 other (i, omega arith, at)

later_there : (k : List ℕ) (ks : List (List ℕ)) (x : List ℕ) → Contains ks x → Contains (k ∷ ks) x
later_there k ks x (i, within, at) = (suc i, omega arith, at)

split_at : (k : List ℕ) (ks : List (List ℕ)) (x : List ℕ) → Contains (k ∷ ks) x → (x ≡ k) ⊎ Contains ks x
split_at k ks x (zero, within, at) = inl (sym at)
split_at k ks x (suc i, within, at) = inr (i, omega arith, at)

least_step : (known : List (List ℕ)) (e : String Global × Value) (es : List (String Global × Value)) (b : Bool) (k : List ℕ) → is_among known (string_bytes e.0) ≡ b
    → AllByRecursion (λ y. string_cmp e.0 y ≡ Less) (keys_of es)
    → (unknown_key known (members_view es) ≡ Some k → IsLeastUnknown known (members_view es) k)
    → cond (not b) (Some (string_bytes e.0)) (unknown_key known (members_view es)) ≡ Some k
    → IsLeastUnknown known (members_view (e ∷ es)) k
least_step known e es true k is after more found =
    let rest = more found in
    record {
      there = later_there (string_bytes e.0) (keys_in (members_view es)) k rest.there;
      unknown = rest.unknown;
      least = λ other has unknown. elim (split_at (string_bytes e.0) (keys_in (members_view es)) other has) [
        | inl same ↦ (let clash : true ≡ false = sym is ∙ (ap (is_among known) (sym same) ∙ unknown) in cc)
        | inr later ↦ rest.least other later unknown
      ];
    }
least_step known e es false k is after more found =
    let same : string_bytes e.0 ≡ k = cc in
    subst (λ (x : List ℕ). IsLeastUnknown known (members_view (e ∷ es)) x) same (record {
      there = (zero, omega arith, refl);
      unknown = is;
      least = λ other has unknown. elim (split_at (string_bytes e.0) (keys_in (members_view es)) other has) [
        | inl is_first ↦ inl is_first
        | inr later ↦ inr (behind e.0 es after other later)
      ];
    })

least_of : (known : List (List ℕ)) (es : List (String Global × Value)) (k : List ℕ) → IsStrictlySortedBy string_cmp (keys_of es)
    → unknown_key known (members_view es) ≡ Some k → IsLeastUnknown known (members_view es) k
unfolding IsStrictlySortedBy
least_of known [] k sorted found = absurd (cc)
least_of known (e ∷ es) k sorted found =
    least_step known e es (is_among known (string_bytes e.0)) k refl sorted.0 (least_of known es k sorted.1) found

-- the unknown key that is given is the least
pub least_unknown : (known : List (List ℕ)) (table : BTreeMap (String Global) Value) (k : List ℕ) → IsOrdered string_cmp table
    → unknown_key known (table_view table) ≡ Some k → IsLeastUnknown known (table_view table) k
least_unknown known table k sorted found = least_of known table.entries k sorted found

known_step : (known : List (List ℕ)) (first : List ℕ) (ks : List (List ℕ)) (b : Bool) → is_among known first ≡ b
    → (find (λ k. not (is_among known k)) ks ≡ None → (k : List ℕ) → Contains ks k → is_among known k ≡ true)
    → cond (not b) (Some first) (find (λ k. not (is_among known k)) ks) ≡ None
    → (k : List ℕ) → Contains (first ∷ ks) k → is_among known k ≡ true
known_step known first ks true is after none = λ k has. elim (split_at first ks k has) [
  | inl same ↦ subst (λ (x : List ℕ). is_among known x ≡ true) (sym same) is
  | inr later ↦ after none k later
]
known_step known first ks false is after none = absurd (cc)

known_of : (known : List (List ℕ)) (ks : List (List ℕ)) → find (λ k. not (is_among known k)) ks ≡ None → (k : List ℕ) → Contains ks k → is_among known k ≡ true
known_of known [] none = λ k has. absurd (omega (arith, has.1))
known_of known (first ∷ ks) none = known_step known first ks (is_among known first) refl (known_of known ks) none

-- where no key is given, each is known
pub all_known : (known : List (List ℕ)) (ms : Members) → unknown_key known ms ≡ None → AreKnown known ms
all_known known ms none = known_of known (keys_in ms) none
