-- Scopes in order: what declaring a name and ending a declaration keep.
use Rattle.std.proofs.Common.{◌≡◌, ◌⊎◌, inl, inr, ℕ, zero, suc, ◌<◌, ◌≤◌, arith, Bool, true, false, List, [], ◌∷◌, ◌++◌, length, map, codes, set, Option, Some, None, refl, sym, ap, subst, ◌∙◌}
use Rattle.std.specs.Prelude.{◌==◌, slice_get}
use Rattle.std.specs.List.{list_any}
use Rattle.std.specs.Option.{option_map}
use Rattle.std.specs.Str.{bytes_eq}
use Rattle.std.proofs.lemmas.Bool.{and_from, or_left, or_right, both_ways, eq-eqb}
use Rattle.std.proofs.lemmas.List.{map-append, map-set}
use Rattle.std.proofs.lemmas.Option.{none-some, same_Some, slice_get-map}
use Rattle.std.proofs.lemmas.Slice.Eq.{bytes_eq-Decides}
use Rattle.idl_scopes.specs.declared.place.Place.{Place}
use Rattle.idl_scopes.specs.Table.{Sort, Declared, Table}
use Rattle.idl_scopes.specs.Finding.{lowered, is_at, scope_in, name_in, scope_at, name_at}
use Rattle.idl_scopes.specs.Declaring.{added, finished_in, finished}
use Rattle.idl_reader.proofs.CutNames.{has_slash}
use Rattle.idl_reader.proofs.Ids.{InOrder}
use Rattle.idl_reader.proofs.NameTokens.{IsNameText, name_whole}

-- the scope and the spelling of a declaration
abbrev pub known : Declared → ℕ × List ℕ
known d = (d.scope, d.name)

-- of all declarations
abbrev pub known_in : List Declared → List (ℕ × List ℕ)
known_in ds = map known ds

-- its key
abbrev pub key_of : ℕ × List ℕ → ℕ × List ℕ
key_of p = (p.0, lowered p.1)

-- names in scopes, in order: each is spelled as a name, each is inside of what was declared before, and no two are one name of one scope
pub record AreInOrder (ps : List (ℕ × List ℕ)) : Type 0 where
  pub plain : (i : ℕ) (p : ℕ × List ℕ) → slice_get ps i ≡ Some p → IsNameText p.1
  pub inwards : (i : ℕ) (p : ℕ × List ℕ) → slice_get ps i ≡ Some p → p.0 ≤ i
  pub apart : (i j : ℕ) (p q : ℕ × List ℕ) → slice_get ps i ≡ Some p → slice_get ps j ≡ Some q → p.0 ≡ q.0 → lowered p.1 ≡ lowered q.1 → i ≡ j

-- one of the elements, or the one after them
pub get_behind : {X : Type 0} (xs : List X) (y x : X) (i : ℕ) → slice_get (xs ++ y ∷ []) i ≡ Some x → (slice_get xs i ≡ Some x) ⊎ ((i ≡ length xs) × (y ≡ x))
get_behind [] y x zero e = inr (refl, same_Some y x e)
get_behind [] y x (suc i) e = absurd (none-some x e)
get_behind (z ∷ xs) y x zero e = inl e
get_behind (z ∷ xs) y x (suc i) e = elim (get_behind xs y x i e) [ inl h ↦ inl h | inr h ↦ inr (let k = h.0 in omega arith, h.1) ]

pub any_there : {X : Type 0} (test : X → Bool) (xs : List X) (i : ℕ) (x : X) → slice_get xs i ≡ Some x → test x ≡ true → list_any test xs ≡ true
any_there test [] i x e h = absurd (none-some x e)
any_there test (y ∷ xs) zero x e h = or_left (test y) (list_any test xs) (ap test (same_Some y x e) ∙ h)
any_there test (y ∷ xs) (suc i) x e h = or_right (test y) (list_any test xs) (any_there test xs i x e h)

same_key : (scope : ℕ) (name : List ℕ) (k : ℕ × List ℕ) → scope ≡ k.0 → name ≡ k.1 → is_at scope name k ≡ true
same_key scope name k a b = and_from (scope == k.0) (bytes_eq name k.1) (eq-eqb scope k.0 a) ((bytes_eq-Decides name k.1).1 b)

key_there : (ps : List (ℕ × List ℕ)) (scope : ℕ) (name : List ℕ) (i : ℕ) (p : ℕ × List ℕ) → slice_get ps i ≡ Some p → scope ≡ p.0 → name ≡ lowered p.1
    → list_any (is_at scope name) (map key_of ps) ≡ true
key_there ps scope name i p e a b =
    any_there (is_at scope name) (map key_of ps) i (key_of p) (slice_get-map key_of ps i ∙ ap (λ (o : Option (ℕ × List ℕ)). option_map key_of o) e) (same_key scope name (key_of p) a b)

-- one name more
pub one_more_name : (ps : List (ℕ × List ℕ)) (scope : ℕ) (name : List ℕ) → AreInOrder ps → scope ≤ length ps → IsNameText name
    → list_any (is_at scope (lowered name)) (map key_of ps) ≡ false → AreInOrder (ps ++ (scope, name) ∷ [])
one_more_name ps scope name o inside plain new = record {
  plain = λ i p e. elim (get_behind ps (scope, name) p i e) [ inl h ↦ o.plain i p h | inr h ↦ subst (λ (q : ℕ × List ℕ). IsNameText q.1) h.1 plain ];
  inwards = λ i p e. elim (get_behind ps (scope, name) p i e) [ inl h ↦ o.inwards i p h | inr h ↦ let k = h.0 in let s : scope ≡ p.0 = ap (λ (q : ℕ × List ℕ). q.0) h.1 in omega arith ];
  apart = λ i j p q e f a b. elim (get_behind ps (scope, name) p i e) [
    | inl h ↦ elim (get_behind ps (scope, name) q j f) [
      | inl k ↦ o.apart i j p q h k a b
      | inr k ↦ absurd (both_ways _ new (key_there ps scope (lowered name) i p h (ap (λ (r : ℕ × List ℕ). r.0) k.1 ∙ sym a) (ap (λ (r : ℕ × List ℕ). lowered r.1) k.1 ∙ sym b)))
    ]
    | inr h ↦ elim (get_behind ps (scope, name) q j f) [
      | inl k ↦ absurd (both_ways _ new (key_there ps scope (lowered name) j q k (ap (λ (r : ℕ × List ℕ). r.0) h.1 ∙ a) (ap (λ (r : ℕ × List ℕ). lowered r.1) h.1 ∙ b)))
      | inr k ↦ h.0 ∙ sym k.0
    ]
  ];
}

-- none is the built-in module's
abbrev pub IsFree : List (ℕ × List ℕ) → Type 0
IsFree ps = (i : ℕ) (p : ℕ × List ℕ) → slice_get ps i ≡ Some p → p.0 ≡ 0 → lowered p.1 ≡ codes "orb" → ⊥

pub free_more : (ps : List (ℕ × List ℕ)) (scope : ℕ) (name : List ℕ) → IsFree ps → (scope ≡ 0 → lowered name ≡ codes "orb" → ⊥) → IsFree (ps ++ (scope, name) ∷ [])
free_more ps scope name f free i p e a b = elim (get_behind ps (scope, name) p i e) [
  | inl h ↦ f i p h a b
  | inr h ↦ free (ap (λ (r : ℕ × List ℕ). r.0) h.1 ∙ a) (ap (λ (r : ℕ × List ℕ). lowered r.1) h.1 ∙ b)
]

pub none_free : IsFree []
none_free i p e a b = absurd (none-some p e)

-- no name is in order
pub no_names_in_order : AreInOrder []
no_names_in_order = record {
  plain = λ i p e. absurd (none-some p e);
  inwards = λ i p e. absurd (none-some p e);
  apart = λ i j p q e f a b. absurd (none-some p e);
}

set_same : {X : Type 0} (xs : List X) (i : ℕ) (x : X) → slice_get xs i ≡ Some x → set xs i x ≡ xs
set_same {X = X} [] i x e = absurd (none-some x e)
set_same {X = X} (y ∷ xs) zero x e = ap (λ (z : X). z ∷ xs) (sym (same_Some y x e))
set_same {X = X} (y ∷ xs) (suc i) x e = ap (λ (zs : List X). y ∷ zs) (set_same xs i x e)

finished_known : (ds : List Declared) (i : ℕ) (sort : Sort) (o : Option Declared) → slice_get ds i ≡ o → known_in (finished_in ds i sort o) ≡ known_in ds
finished_known ds i sort None e = refl
finished_known ds i sort (Some d) e =
    map-set known ds i (record d { sort = sort })
    ∙ set_same (known_in ds) i (known d) (slice_get-map known ds i ∙ ap (λ (o : Option Declared). option_map known o) e)

-- a declaration that ends keeps its scope and its name
pub same_known : (t : Table) (i : ℕ) (sort : Sort) → known_in (finished t i sort).declared ≡ known_in t.declared
same_known t i sort = finished_known t.declared i sort (slice_get t.declared i) refl

pub known_added : (scope : ℕ) (name : List ℕ) (place : Place) (sort : Sort) (t : Table) → known_in (added scope name place sort t).declared ≡ known_in t.declared ++ (scope, name) ∷ []
known_added scope name place sort t = map-append known t.declared (record { scope = scope; name = name; place = place; sort = sort } ∷ [])

-- what is at a place
scope_from : (ds : List Declared) (i : ℕ) (o : Option Declared) → slice_get ds i ≡ o → AreInOrder (known_in ds) → scope_in o ≤ i
scope_from ds i None e h = omega arith
scope_from ds i (Some d) e h = h.inwards i (known d) (slice_get-map known ds i ∙ ap (λ (o : Option Declared). option_map known o) e)

name_from : (ds : List Declared) (i : ℕ) (o : Option Declared) → slice_get ds i ≡ o → AreInOrder (known_in ds) → has_slash (lowered (name_in o)) ≡ false
name_from ds i None e h = refl
name_from ds i (Some d) e h = name_whole d.name (h.plain i (known d) (slice_get-map known ds i ∙ ap (λ (o : Option Declared). option_map known o) e))

past : (ds : List Declared) (i : ℕ) → slice_get ds i ≡ None → i < length ds → ⊥
past [] i e x = omega arith
past (d ∷ ds) zero e x = none-some d (sym e)
past (d ∷ ds) (suc i) e x = past ds i e (omega arith)

apart_from : (ds : List Declared) (i j : ℕ) (a b : Option Declared) → slice_get ds i ≡ a → slice_get ds j ≡ b → i < length ds → j < length ds → AreInOrder (known_in ds)
    → scope_in a ≡ scope_in b → lowered (name_in a) ≡ lowered (name_in b) → i ≡ j
apart_from ds i j None b e f x y h same low = absurd (past ds i e x)
apart_from ds i j (Some d) None e f x y h same low = absurd (past ds j f y)
apart_from ds i j (Some d) (Some k) e f x y h same low =
    h.apart i j (known d) (known k) (slice_get-map known ds i ∙ ap (λ (o : Option Declared). option_map known o) e)
    (slice_get-map known ds j ∙ ap (λ (o : Option Declared). option_map known o) f) same low

-- so the scopes of a text are in order
pub in_order : (t : Table) → AreInOrder (known_in t.declared) → InOrder t
in_order t h = record {
  plain = λ i. name_from t.declared i (slice_get t.declared i) refl h;
  inwards = λ i. scope_from t.declared i (slice_get t.declared i) refl h;
  apart = λ i j x y same low. apart_from t.declared i j (slice_get t.declared i) (slice_get t.declared j) refl refl x y h same low;
}

free_from : (ds : List Declared) (i : ℕ) (o : Option Declared) → slice_get ds i ≡ o → IsFree (known_in ds) → scope_in o ≡ 0 → lowered (name_in o) ≡ codes "orb" → ⊥
free_from ds i None e h z low = absurd cc
free_from ds i (Some d) e h z low = h i (known d) (slice_get-map known ds i ∙ ap (λ (o : Option Declared). option_map known o) e) z low

-- and none is the built-in module's
pub free_at : (t : Table) → IsFree (known_in t.declared) → (i : ℕ) → scope_at t i ≡ 0 → lowered (name_at t i) ≡ codes "orb" → ⊥
free_at t h i z low = free_from t.declared i (slice_get t.declared i) refl h z low
