-- A name that no scope has is in none of several.
use Rattle.std.proofs.Common.{◌≡◌, ◌||◌, ℕ, true, false, List, [], ◌∷◌, length, Option, Some, None, refl, ap, ◌∙◌}
use Rattle.std.specs.List.{list_any}
use Rattle.std.proofs.lemmas.Bool.{false_from_ne_true}
use Rattle.idl_scopes.specs.Table.{Table}
use Rattle.idl_scopes.specs.Bases.{holds}
use Rattle.idl_scopes.specs.Finding.{place_in, if_spelled, or_else, among}
use Rattle.idl_scopes.specs.Groups.{AreHolders, AreOwners}
use Rattle.idl_scopes.specs.Taking.{is_operation_in}

module _ (t : Table) (name : List ℕ) where
  none_of : (holders : List ℕ) → length holders ≡ 0 → (scope : ℕ) → holds holders scope ≡ true → ⊥
  none_of [] e scope h = cc
  none_of (x ∷ xs) e scope h = cc

  nowhere : (holders : List ℕ) → AreHolders t name holders → length holders ≡ 0 → (scope : ℕ) → place_in t name scope ≡ None
  nowhere holders all e scope = by (place_in t name scope) refl
    where
      by : (o : Option ℕ) → place_in t name scope ≡ o → place_in t name scope ≡ None
      by None is = is
      by (Some i) is = absurd (none_of holders e scope (all scope i is))

  pub among_none : (holders scopes : List ℕ) → AreHolders t name holders → length holders ≡ 0 → among t name scopes ≡ None
  among_none holders [] all e = refl
  among_none holders (s ∷ ss) all e = ap (λ o. or_else (if_spelled t name o) (among t name ss)) (nowhere holders all e s) ∙ among_none holders ss all e

  no_owner : (owners : List ℕ) → AreOwners t name owners → length owners ≡ 0 → (scope : ℕ) → is_operation_in t name scope ≡ false
  no_owner owners all e scope = false_from_ne_true (is_operation_in t name scope) (λ h. none_of owners e scope (all scope h))

  pub no_operation : (owners scopes : List ℕ) → AreOwners t name owners → length owners ≡ 0 → list_any (is_operation_in t name) scopes ≡ false
  no_operation owners [] all e = refl
  no_operation owners (s ∷ ss) all e = ap (λ b. b || list_any (is_operation_in t name) ss) (no_owner owners all e s) ∙ no_operation owners ss all e
