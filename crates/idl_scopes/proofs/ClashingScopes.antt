-- The declarations whose names clash, scope by scope.
use Rattle.std.proofs.Common.{◌≡◌, ℕ, suc, Bool, true, false, ◌&&◌, ◌||◌, List, [], ◌∷◌, map, Option, Some, None, inl, inr, refl, sym, ap, subst, ◌∙◌, eqb-true}
use Rattle.std.specs.Prelude.{slice_get, ◌==◌}
use Rattle.std.specs.Cmp.{both_ways}
use Rattle.std.specs.Option.{option_map}
use Rattle.std.specs.List.{list_any}
use Rattle.std.proofs.lemmas.Bool.{and_parts, or_cases}
use Rattle.std.proofs.lemmas.Map.Keys.{any_passes_from_place}
use Rattle.std.proofs.lemmas.Option.{same_Some, none-some, slice_get-map}
use Rattle.idl_scopes.specs.Table as plain
use Rattle.idl_scopes.specs.Table.{Table}
use Rattle.idl_scopes.specs.Finding.{among}
use Rattle.idl_scopes.specs.Bases.{differs, holds, bases_clash}
use Rattle.idl_scopes.specs.Declarations.{declared_of}
use Rattle.idl_scopes.specs.Groups.{clashes_in, clashes_here, clashes_at}
use Rattle.idl_scopes.specs.declared.declared.Declared.{Declared}

-- one that passes is somewhere
passes : {X : Type 0} (p : X → Bool) (xs : List X) → list_any p xs ≡ true → (i : ℕ) × (x : X) × (slice_get xs i ≡ Some x) × (p x ≡ true)
passes p [] any = absurd cc
passes p (x ∷ xs) any = elim (or_cases (p x) (list_any p xs) any) [
  | inl h ↦ (0, x, refl, h)
  | inr h ↦ (let q = passes p xs h in (suc q.0, q.1, q.2, q.3))
]

module _ (t : Table) (earlier later : List ℕ) (scope : ℕ) where
  there : (o : Option plain.Declared) → clashes_here t earlier later scope o ≡ true → (d : plain.Declared) × (o ≡ Some d) × (clashes_in t earlier later scope d ≡ true)
  there None h = absurd cc
  there (Some d) h = (d, refl, h)

  -- the places of a scope's declarations tell as much as all declarations
  pub by_places : (ds : List Declared) (places : List ℕ) → t.declared ≡ map declared_of ds → ((i : ℕ) (d : Declared) → slice_get ds i ≡ Some d → d.scope ≡ scope → holds places i ≡ true)
      → list_any (clashes_at t earlier later scope) places ≡ list_any (clashes_in t earlier later scope) t.declared
  by_places ds places are all = both_ways (list_any (clashes_at t earlier later scope) places) (list_any (clashes_in t earlier later scope) t.declared) forth back
    where
      forth : list_any (clashes_at t earlier later scope) places ≡ true → list_any (clashes_in t earlier later scope) t.declared ≡ true
      forth h =
          let q = passes (clashes_at t earlier later scope) places h in
          let d = there (slice_get t.declared q.1) q.3 in
          any_passes_from_place (clashes_in t earlier later scope) t.declared q.1 d.0 d.1 d.2

      found : (i : ℕ) (o : Option Declared) (x : plain.Declared) → slice_get ds i ≡ o → option_map declared_of o ≡ Some x → x.scope ≡ scope → holds places i ≡ true
      found i None x is e same = absurd (none-some x e)
      found i (Some d) x is e same = all i d is (ap (λ (y : plain.Declared). y.scope) (same_Some (declared_of d) x e) ∙ same)

      back : list_any (clashes_in t earlier later scope) t.declared ≡ true → list_any (clashes_at t earlier later scope) places ≡ true
      back h =
          let q = passes (clashes_in t earlier later scope) t.declared h in
          let same : q.1.scope ≡ scope = sym (eqb-true scope q.1.scope (and_parts (scope == q.1.scope) (differs (among t q.1.name earlier) (among t q.1.name later)) q.3).0) in
          let seen : option_map declared_of (slice_get ds q.0) ≡ Some q.1 = sym (slice_get-map declared_of ds q.0) ∙ ap (λ (xs : List plain.Declared). slice_get xs q.0) (sym are) ∙ q.2 in
          let p = passes (λ (s : ℕ). s == q.0) places (found q.0 (slice_get ds q.0) q.1 refl seen same) in
          let here : p.1 ≡ q.0 = eqb-true p.1 q.0 p.3 in
          any_passes_from_place (clashes_at t earlier later scope) places p.0 p.1 p.2
          (subst (λ (i : ℕ). clashes_at t earlier later scope i ≡ true) (sym here) (ap (clashes_here t earlier later scope) q.2 ∙ q.3))

module _ {X : Type 0} (f : X → ℕ) (q : X → Bool) where
  none : (xs : List X) → list_any (λ x. false && q x) xs ≡ false
  none [] = refl
  none (x ∷ xs) = none xs

  split : (a b c : Bool) → ((a || b) && c) ≡ ((a && c) || (b && c))
  split true b true = refl
  split true true false = refl
  split true false false = refl
  split false b c = refl

  mixed : (a b c d : Bool) → ((a || b) || (c || d)) ≡ ((a || c) || (b || d))
  mixed true b c d = refl
  mixed false true true d = refl
  mixed false true false d = refl
  mixed false false c d = refl

  one_more : (s : ℕ) (later : List ℕ) (xs : List X)
      → list_any (λ x. holds (s ∷ later) (f x) && q x) xs ≡ (list_any (λ x. (s == f x) && q x) xs || list_any (λ x. holds later (f x) && q x) xs)
  one_more s later [] = refl
  one_more s later (x ∷ xs) =
      ap (λ b. b || list_any (λ x. holds (s ∷ later) (f x) && q x) xs) (split (s == f x) (holds later (f x)) (q x))
      ∙ ap (λ b. (((s == f x) && q x) || (holds later (f x) && q x)) || b) (one_more s later xs)
      ∙ mixed ((s == f x) && q x) (holds later (f x) && q x) (list_any (λ x. (s == f x) && q x) xs) (list_any (λ x. holds later (f x) && q x) xs)

  by_scopes : (later : List ℕ) (xs : List X) → list_any (λ s. list_any (λ x. (s == f x) && q x) xs) later ≡ list_any (λ x. holds later (f x) && q x) xs
  by_scopes [] xs = sym (none xs)
  by_scopes (s ∷ later) xs = ap (λ b. list_any (λ x. (s == f x) && q x) xs || b) (by_scopes later xs) ∙ sym (one_more s later xs)

-- the later scopes one after the other
pub scope_by_scope : (t : Table) (earlier later : List ℕ) → list_any (λ scope. list_any (clashes_in t earlier later scope) t.declared) later ≡ bases_clash t earlier later
scope_by_scope t earlier later = by_scopes (λ (d : plain.Declared). d.scope) (λ (d : plain.Declared). differs (among t d.name earlier) (among t d.name later)) later t.declared
