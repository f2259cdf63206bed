-- The operations of each interface stand for one name each, and the inherited ones are first: what declaring names and ending
-- declarations keep of that.
use Rattle.std.proofs.Common.{◌≡◌, ◌⊎◌, inl, inr, ℕ, zero, suc, ◌+◌, ◌-◌, ◌<◌, ◌≤◌, arith, Bool, true, false, List, [], ◌∷◌, ◌++◌, append_assoc, append-nil, length, length-append, codes, set, Option, Some, None, refl, sym, ap, subst, ◌∙◌}
use Rattle.std.specs.Prelude.{slice_get}
use Rattle.std.proofs.lemmas.Bool.{both_ways, cases_Bool, cases_eq, cases_lt}
use Rattle.std.proofs.lemmas.List.{length-map}
use Rattle.std.proofs.lemmas.Option.{none-some, same_Some, slice_get_within}
use Rattle.cdr_values.specs.Trees.{Names}
use Rattle.idl_scopes.specs.declared.place.Place.{Place}
use Rattle.idl_scopes.specs.Table as table
use Rattle.idl_scopes.specs.Table.{Sort, unfinished, module_, operation, Declared, Table}
use Rattle.idl_scopes.specs.Finding.{sort_in, scope_in, sort_at, scope_at, is_finished}
use Rattle.idl_scopes.specs.Declaring.{added, finished_in, finished}
use Rattle.idl_types.specs.Names.{operation_names}
use Rattle.idl_types.specs.Things.{OperationView}
use Rattle.idl_names.specs.Each.{and_each}
use Rattle.idl_names.specs.State.{Thing, nothing, interface, operations}
use Rattle.idl_names.specs.Changes.{thing_in}
use Rattle.idl_names.specs.Interfaces.{is_interface, operations_in, operations_from, and_operation}
use Rattle.idl_reader.proofs.DeclaredNames.{known_scope, scope_by_known}
use Rattle.idl_reader.proofs.EarlierBases.{IsBase, AreBases, AreEarlier}
use Rattle.idl_reader.proofs.FirstNames.{IsFirst, IsAmong, IsNone, first_added}
use Rattle.idl_reader.proofs.NameTokens.{begins_low}
use Rattle.idl_reader.proofs.Shapes.{gained}
use Rattle.idl_reader.proofs.Tables.{known, known_in, AreInOrder, get_behind, same_known, known_added}
use Rattle.idl_reader.proofs.ThingLists.{get_before, get_last, set_elsewhere, set_there, get_set}

-- the names of the operations of an operation, or of an attribute, of this name
abbrev pub AreNamesOf : List ℕ → Names → Type 0
AreNamesOf name ns = (ns ≡ name ∷ []) ⊎ ((ns ≡ (codes "_get_" ++ name) ∷ []) ⊎ (ns ≡ (codes "_get_" ++ name) ∷ (codes "_set_" ++ name) ∷ []))

-- the operation or attribute at a place is the first of its name in these scopes
pub record IsHeld (t : Table) (ts : List Thing) (ss : List ℕ) (o : ℕ) : Type 0 where
  pub name : List ℕ
  pub plain : begins_low name ≡ false
  pub first : IsFirst (known_in t.declared) ss name o
  pub sort : sort_at t o ≡ operation
  pub given : List OperationView
  pub leaves : ℕ
  pub there : slice_get ts o ≡ Some (operations given leaves)
  pub names : AreNamesOf name (operation_names given)

abbrev pub AreHeld : Table → List Thing → List ℕ → List ℕ → Type 0
AreHeld t ts ss [] = Unit {0}
AreHeld t ts ss (o ∷ os) = IsHeld t ts ss o × AreHeld t ts ss os

-- each place once
abbrev pub AreOnce : List ℕ → Type 0
AreOnce [] = Unit {0}
AreOnce (o ∷ os) = (IsAmong o os → ⊥) × AreOnce os

-- the scope of an interface before a place
pub record IsScopeOf (ts : List Thing) (n s : ℕ) : Type 0 where
  pub at : ℕ
  pub is : s ≡ at + 1
  pub less : at < n
  pub base : IsBase ts at

abbrev pub AreScopes : List Thing → ℕ → List ℕ → Type 0
AreScopes ts n [] = Unit {0}
AreScopes ts n (s ∷ ss) = IsScopeOf ts n s × AreScopes ts n ss

-- an interface at a place: the scopes that it inherits, and its operations
pub record IsInterface (t : Table) (ts : List Thing) (i : ℕ) (bases os : List ℕ) : Type 0 where
  pub scopes : List ℕ
  pub sort : sort_at t i ≡ table.interface scopes
  pub within : AreScopes ts i scopes
  pub held : AreHeld t ts ((i + 1) ∷ scopes) os
  pub once : AreOnce os
  pub own : List ℕ
  pub is : os ≡ operations_from ts [] bases ++ own
  pub stand : AreBases ts bases
  pub earlier : AreEarlier bases i

-- the file's scope, or that of a module
abbrev pub IsModuleAt : Table → ℕ → Type 0
IsModuleAt t scope = (scope ≡ 0) ⊎ (sort_at t (scope - 1) ≡ module_)

abbrev pub is_container : Sort → Bool
is_container module_ = true
is_container (table.interface scopes) = true
is_container sort = false

pub record AreInterfaces (t : Table) (ts : List Thing) : Type 0 where
  pub each : (i : ℕ) (bases os : List ℕ) → slice_get ts i ≡ Some (interface bases os) → IsInterface t ts i bases os
  pub placed : (k : ℕ) → is_container (sort_at t k) ≡ true → IsModuleAt t (scope_at t k)

-- what is goes on to be
pub record Keeps (t : Table) (ts : List Thing) (u : Table) (us : List Thing) : Type 0 where
  pub ops : (k : ℕ) (vs : List OperationView) (n : ℕ) → slice_get ts k ≡ Some (operations vs n) → slice_get us k ≡ Some (operations vs n)
  pub bases : (k : ℕ) → IsBase ts k → IsBase us k
  pub sorts : (k : ℕ) → is_finished (sort_at t k) ≡ true → sort_at u k ≡ sort_at t k
  pub scopes : (k : ℕ) → is_finished (sort_at t k) ≡ true → scope_at u k ≡ scope_at t k

-- the first of a name in these scopes goes on to be it
abbrev pub FirstsKept : Table → Table → List ℕ → Type 0
FirstsKept t u ss = (name : List ℕ) (o : ℕ) → IsFirst (known_in t.declared) ss name o → sort_at t o ≡ operation → IsFirst (known_in u.declared) ss name o

finished_operation : (s : Sort) → s ≡ operation → is_finished s ≡ true
finished_operation s e = ap is_finished e

module _ (t : Table) (ts : List Thing) (u : Table) (us : List Thing) (k : Keeps t ts u us) where
  pub held_kept : (ss os : List ℕ) → FirstsKept t u ss → AreHeld t ts ss os → AreHeld u us ss os
  held_kept ss [] f h = tt
  held_kept ss (o ∷ os) f h = (
    record {
      name = h.0.name;
      plain = h.0.plain;
      first = f h.0.name o h.0.first h.0.sort;
      sort = k.sorts o (finished_operation (sort_at t o) h.0.sort) ∙ h.0.sort;
      given = h.0.given;
      leaves = h.0.leaves;
      there = k.ops o h.0.given h.0.leaves h.0.there;
      names = h.0.names;
    },
    held_kept ss os f h.1,
  )

  pub scopes_kept : (n : ℕ) (ss : List ℕ) → AreScopes ts n ss → AreScopes us n ss
  scopes_kept n [] h = tt
  scopes_kept n (s ∷ ss) h = (record { at = h.0.at; is = h.0.is; less = h.0.less; base = k.bases h.0.at h.0.base }, scopes_kept n ss h.1)

  pub bases_kept : (bs : List ℕ) → AreBases ts bs → AreBases us bs
  bases_kept [] h = tt
  bases_kept (b ∷ bs) h = (k.bases b h.0, bases_kept bs h.1)

  pub interface_kept : (i : ℕ) (bs os : List ℕ) → (d : IsInterface t ts i bs os) → FirstsKept t u ((i + 1) ∷ d.scopes) → operations_from us [] bs ≡ operations_from ts [] bs → IsInterface u us i bs os
  interface_kept i bs os d f same = record {
    scopes = d.scopes;
    sort = k.sorts i (ap is_finished d.sort) ∙ d.sort;
    within = scopes_kept i d.scopes d.within;
    held = held_kept ((i + 1) ∷ d.scopes) os f d.held;
    once = d.once;
    own = d.own;
    is = d.is ∙ ap (λ (ks : List ℕ). ks ++ d.own) (sym same);
    stand = bases_kept bs d.stand;
    earlier = d.earlier;
  }

  pub module_kept : (scope : ℕ) → IsModuleAt t scope → IsModuleAt u scope
  module_kept scope h = elim h [ inl e ↦ inl e | inr e ↦ inr (k.sorts (scope - 1) (ap is_finished e) ∙ e) ]

  pub placed_kept : ((i : ℕ) → is_finished (sort_at t i) ≡ false → is_container (sort_at u i) ≡ true → IsModuleAt u (scope_at u i)) → ((i : ℕ) → is_container (sort_at t i) ≡ true → IsModuleAt t (scope_at t i))
      → (i : ℕ) → is_container (sort_at u i) ≡ true → IsModuleAt u (scope_at u i)
  placed_kept fresh h i c = elim (cases_Bool (is_finished (sort_at t i))) [
    | inl fin ↦
        subst (IsModuleAt u) (sym (k.scopes i fin)) (module_kept (scope_at t i) (h i (ap is_container (sym (k.sorts i fin)) ∙ c)))
    | inr un ↦ fresh i un c
  ]

-- the operations of bases, where each base is as it was
pub given_same : (ts us : List Thing) (bs so_far : List ℕ) → AreBases ts bs → ((b : ℕ) → IsAmong b bs → slice_get us b ≡ slice_get ts b) → operations_from us so_far bs ≡ operations_from ts so_far bs
given_same ts us [] so_far h f = refl
given_same ts us (b ∷ bs) so_far h f =
    ap (λ (x : Option Thing). operations_from us (and_each so_far (operations_in (thing_in x))) bs) (f b (inl refl))
    ∙ given_same ts us bs (and_each so_far (operations_in (thing_in (slice_get ts b)))) h.1 (λ c m. f c (inr m))

pub among_base : (ts : List Thing) (bs : List ℕ) → AreBases ts bs → (b : ℕ) → IsAmong b bs → IsBase ts b
among_base ts [] h b m = absurd m
among_base ts (c ∷ bs) h b m = elim m [ inl e ↦ subst (IsBase ts) (sym e) h.0 | inr r ↦ among_base ts bs h.1 b r ]

pub among_earlier : (bs : List ℕ) (n : ℕ) → AreEarlier bs n → (b : ℕ) → IsAmong b bs → b < n
among_earlier [] n h b m = absurd m
among_earlier (c ∷ bs) n h b m = elim m [ inl e ↦ let less = h.0 in omega arith | inr r ↦ among_earlier bs n h.1 b r ]

pub among_scope : (ts : List Thing) (n : ℕ) (ss : List ℕ) → AreScopes ts n ss → (s : ℕ) → IsAmong s ss → IsScopeOf ts n s
among_scope ts n [] h s m = absurd m
among_scope ts n (c ∷ ss) h s m = elim m [ inl e ↦ subst (IsScopeOf ts n) (sym e) h.0 | inr r ↦ among_scope ts n ss h.1 s r ]

-- what is before one more
pub get_front : {X : Type 0} (xs : List X) (x : X) (k : ℕ) → k < length xs → slice_get (xs ++ x ∷ []) k ≡ slice_get xs k
get_front [] x k less = absurd (omega arith)
get_front (y ∷ xs) x zero less = refl
get_front (y ∷ xs) x (suc k) less = get_front xs x k (omega arith)

-- sorts and scopes, where a declaration is added
pub sort_old : (scope : ℕ) (name : List ℕ) (place : Place) (sort : Sort) (t : Table) (k : ℕ) → k < length t.declared → sort_at (added scope name place sort t) k ≡ sort_at t k
sort_old scope name place sort t k less = ap sort_in (get_front t.declared (record { scope = scope; name = name; place = place; sort = sort }) k less)

pub scope_old : (scope : ℕ) (name : List ℕ) (place : Place) (sort : Sort) (t : Table) (k : ℕ) → k < length t.declared → scope_at (added scope name place sort t) k ≡ scope_at t k
scope_old scope name place sort t k less = ap scope_in (get_front t.declared (record { scope = scope; name = name; place = place; sort = sort }) k less)

pub sort_new : (scope : ℕ) (name : List ℕ) (place : Place) (sort : Sort) (t : Table) → sort_at (added scope name place sort t) (length t.declared) ≡ sort
sort_new scope name place sort t = ap sort_in (get_last t.declared (record { scope = scope; name = name; place = place; sort = sort }))

pub scope_new : (scope : ℕ) (name : List ℕ) (place : Place) (sort : Sort) (t : Table) → scope_at (added scope name place sort t) (length t.declared) ≡ scope
scope_new scope name place sort t = ap scope_in (get_last t.declared (record { scope = scope; name = name; place = place; sort = sort }))

get_none : {X : Type 0} (xs : List X) (k : ℕ) → length xs ≤ k → slice_get xs k ≡ None
get_none [] k less = refl
get_none (y ∷ xs) zero less = absurd (omega arith)
get_none (y ∷ xs) (suc k) less = get_none xs k (omega arith)

-- what has an end that was read is declared
pub finished_within : (t : Table) (k : ℕ) → is_finished (sort_at t k) ≡ true → k < length t.declared
finished_within t k h = elim (cases_lt k (length t.declared)) [
  | inl less ↦ less
  | inr more ↦ absurd (both_ways (is_finished (sort_at t k)) (ap (λ (o : Option Declared). is_finished (sort_in o)) (get_none t.declared k more)) h)
]

container_finished : (s : Sort) → is_container s ≡ true → is_finished s ≡ true
container_finished unfinished h = absurd cc
container_finished module_ h = refl
container_finished (table.interface scopes) h = refl
container_finished operation h = refl
container_finished table.other h = refl

-- a declaration that is added, which is no interface yet
pub keeps_added : (scope : ℕ) (name : List ℕ) (place : Place) (sort : Sort) (t : Table) (ts : List Thing) (x : Thing) → Keeps t ts (added scope name place sort t) (ts ++ x ∷ [])
keeps_added scope name place sort t ts x = record {
  ops = λ k vs n e. get_before ts x (operations vs n) k e;
  bases = λ k b. record { bases = b.bases; operations = b.operations; there = get_before ts x _ k b.there };
  sorts = λ k h. sort_old scope name place sort t k (finished_within t k h);
  scopes = λ k h. scope_old scope name place sort t k (finished_within t k h);
}

pub no_interface : (x : Thing) (bs os : List ℕ) → is_interface x ≡ false → x ≡ interface bs os → ⊥
no_interface x bs os h e = absurd (both_ways (is_interface x) h (ap is_interface e))

-- no operation of an interface in whose scopes this name is added has this name
abbrev pub IsClear : Table → List Thing → ℕ → List ℕ → Type 0
IsClear t ts scope name = (i : ℕ) (bs os : List ℕ) → slice_get ts i ≡ Some (interface bs os) → (d : IsInterface t ts i bs os) → (n : List ℕ) (o : ℕ) → IsFirst (known_in t.declared) ((i + 1) ∷ d.scopes) n o → sort_at t o ≡ operation
    → IsAmong scope ((i + 1) ∷ d.scopes) → name ≡ n → ⊥

pub interfaces_added : (scope : ℕ) (name : List ℕ) (place : Place) (sort : Sort) (t : Table) (ts : List Thing) (x : Thing) → length ts ≡ length t.declared → is_interface x ≡ false
    → (is_container sort ≡ true → IsModuleAt t scope) → IsClear t ts scope name → AreInterfaces t ts → AreInterfaces (added scope name place sort t) (ts ++ x ∷ [])
interfaces_added scope name place sort t ts x paired plain in_module clear h =
    let u = added scope name place sort t in
    let us = ts ++ x ∷ [] in
    let k = keeps_added scope name place sort t ts x in
    let e = known_added scope name place sort t in
    record {
      each = λ i bs os g. elim (get_behind ts x (interface bs os) i g) [
        | inl q ↦
            let d = h.each i bs os q in
            interface_kept t ts u us k i bs os d
            (λ n o f s. subst (λ (ps : List (ℕ × List ℕ)). IsFirst ps ((i + 1) ∷ d.scopes) n o) (sym e) (first_added (known_in t.declared) (scope, name) ((i + 1) ∷ d.scopes) n o (λ m z. clear i bs os q d n o f s m z) f))
            (given_same ts us bs [] d.stand (λ b m. let b' = among_base ts bs d.stand b m in get_front ts x b (slice_get_within ts b _ b'.there)))
        | inr q ↦ absurd (no_interface x bs os plain q.1)
      ];
      placed = placed_kept t ts u us k (λ i un c. elim (cases_eq i (length t.declared)) [
        | inl p ↦
            let s : is_container sort ≡ true = ap is_container (sym (sort_new scope name place sort t)) ∙ subst (λ (j : ℕ). is_container (sort_at u j) ≡ true) p c in
            subst (λ (j : ℕ). IsModuleAt u (scope_at u j)) (sym p) (subst (IsModuleAt u) (sym (scope_new scope name place sort t)) (module_kept t ts u us k scope (in_module s)))
        | inr p ↦
            let fin = container_finished (sort_at u i) c in
            let less = finished_within u i fin in
            let n = length-append t.declared (record { scope = scope; name = name; place = place; sort = sort } ∷ []) in
            let old = sort_old scope name place sort t i (omega arith) in
            absurd (both_ways (is_finished (sort_at t i)) un (ap is_finished (sym old) ∙ fin))
      ]) h.placed;
    }

-- sorts and scopes, where a declaration ends
sort_set : (ds : List Declared) (i j : ℕ) (sort : Sort) (o : Option Declared) → slice_get ds i ≡ o → (i ≡ j → ⊥) → sort_in (slice_get (finished_in ds i sort o) j) ≡ sort_in (slice_get ds j)
sort_set ds i j sort None e h = refl
sort_set ds i j sort (Some d) e h = ap sort_in (set_elsewhere ds i j (record d { sort = sort }) h)

pub sort_elsewhere : (t : Table) (i j : ℕ) (sort : Sort) → (i ≡ j → ⊥) → sort_at (finished t i sort) j ≡ sort_at t j
sort_elsewhere t i j sort h = sort_set t.declared i j sort (slice_get t.declared i) refl h

sort_became : (ds : List Declared) (i : ℕ) (sort : Sort) (o : Option Declared) → slice_get ds i ≡ o → i < length ds → sort_in (slice_get (finished_in ds i sort o) i) ≡ sort
sort_became ds i sort None e less = absurd (past ds i e less)
  where
    past : (ds : List Declared) (i : ℕ) → slice_get ds i ≡ None → i < length ds → ⊥
    past [] i e x = omega arith
    past (d ∷ ds) zero e x = none-some d (sym e)
    past (d ∷ ds) (suc i) e x = past ds i e (omega arith)
sort_became ds i sort (Some d) e less = ap sort_in (set_there ds i (record d { sort = sort }) d e)

pub sort_there : (t : Table) (i : ℕ) (sort : Sort) → i < length t.declared → sort_at (finished t i sort) i ≡ sort
sort_there t i sort less = sort_became t.declared i sort (slice_get t.declared i) refl less

pub scope_finished : (t : Table) (i j : ℕ) (sort : Sort) → scope_at (finished t i sort) j ≡ scope_at t j
scope_finished t i j sort = scope_by_known (finished t i sort) j ∙ ap (λ (ps : List (ℕ × List ℕ)). known_scope (slice_get ps j)) (same_known t i sort) ∙ sym (scope_by_known t j)

-- the end of a declaration that stood for nothing
pub keeps_set : (t : Table) (ts : List Thing) (i : ℕ) (sort : Sort) (x : Thing) → slice_get ts i ≡ Some nothing → is_finished (sort_at t i) ≡ false → Keeps t ts (finished t i sort) (set ts i x)
keeps_set t ts i sort x there un = record {
  ops = λ k vs n e. set_elsewhere ts i k x (λ p. operations_something vs n (same_Some nothing (operations vs n) (sym there ∙ ap (λ (j : ℕ). slice_get ts j) p ∙ e))) ∙ e;
  bases = λ k b. record {
    bases = b.bases;
    operations = b.operations;
    there = set_elsewhere ts i k x (λ p. no_interface nothing b.bases b.operations refl (same_Some nothing _ (sym there ∙ ap (λ (j : ℕ). slice_get ts j) p ∙ b.there))) ∙ b.there;
  };
  sorts = λ k h. sort_elsewhere t i k sort (λ p. both_ways (is_finished (sort_at t i)) un (ap (λ (j : ℕ). is_finished (sort_at t j)) p ∙ h));
  scopes = λ k h. scope_finished t i k sort;
}
  where
    operations_something : (vs : List OperationView) (n : ℕ) → nothing ≡ operations vs n → ⊥
    operations_something vs n e = absurd cc

set_base : (ts : List Thing) (i : ℕ) (x : Thing) → slice_get ts i ≡ Some nothing → (b : ℕ) → IsBase ts b → slice_get (set ts i x) b ≡ slice_get ts b
set_base ts i x there b d =
    set_elsewhere ts i b x (λ p. no_interface nothing d.bases d.operations refl (same_Some nothing _ (sym there ∙ ap (λ (j : ℕ). slice_get ts j) p ∙ d.there)))

-- an interface that was before
kept_set : (t : Table) (ts : List Thing) (i : ℕ) (sort : Sort) (x : Thing) → slice_get ts i ≡ Some nothing → is_finished (sort_at t i) ≡ false → (j : ℕ) (bs os : List ℕ) → IsInterface t ts j bs os
    → IsInterface (finished t i sort) (set ts i x) j bs os
kept_set t ts i sort x there un j bs os d =
    interface_kept t ts (finished t i sort) (set ts i x) (keeps_set t ts i sort x there un) j bs os d
    (λ n o f s. subst (λ (ps : List (ℕ × List ℕ)). IsFirst ps ((j + 1) ∷ d.scopes) n o) (sym (same_known t i sort)) f)
    (given_same ts (set ts i x) bs [] d.stand (λ b m. set_base ts i x there b (among_base ts bs d.stand b m)))

placed_set : (t : Table) (ts : List Thing) (i : ℕ) (sort : Sort) (x : Thing) → slice_get ts i ≡ Some nothing → is_finished (sort_at t i) ≡ false → i < length t.declared → (is_container sort ≡ true → IsModuleAt t (scope_at t i))
    → ((k : ℕ) → is_container (sort_at t k) ≡ true → IsModuleAt t (scope_at t k)) → (k : ℕ) → is_container (sort_at (finished t i sort) k) ≡ true → IsModuleAt (finished t i sort) (scope_at (finished t i sort) k)
placed_set t ts i sort x there un less in_module h =
    let u = finished t i sort in
    let k = keeps_set t ts i sort x there un in
    placed_kept t ts u (set ts i x) k
    (λ j un' c. elim (cases_eq i j) [
      | inl p ↦
          let s : is_container sort ≡ true = ap is_container (sym (sort_there t i sort less)) ∙ subst (λ (z : ℕ). is_container (sort_at u z) ≡ true) (sym p) c in
          subst (λ (z : ℕ). IsModuleAt u (scope_at u z)) p (subst (IsModuleAt u) (sym (scope_finished t i i sort)) (module_kept t ts u (set ts i x) k (scope_at t i) (in_module s)))
      | inr p ↦ absurd (both_ways (is_finished (sort_at t j)) un' (ap is_finished (sym (sort_elsewhere t i j sort p)) ∙ container_finished (sort_at u j) c))
    ]) h

pub interfaces_set : (t : Table) (ts : List Thing) (i : ℕ) (sort : Sort) (x : Thing) → slice_get ts i ≡ Some nothing → is_finished (sort_at t i) ≡ false → i < length t.declared → is_interface x ≡ false → is_container sort ≡ false
    → AreInterfaces t ts → AreInterfaces (finished t i sort) (set ts i x)
interfaces_set t ts i sort x there un less plain single h = record {
  each = λ j bs os g. elim (get_set ts i j x (interface bs os) g) [
    | inl q ↦ absurd (no_interface x bs os plain q.1)
    | inr q ↦ kept_set t ts i sort x there un j bs os (h.each j bs os q.1)
  ];
  placed = placed_set t ts i sort x there un less (λ c. absurd (both_ways (is_container sort) single c)) h.placed;
}

-- what several bases give
pub record AreMerged (t : Table) (ts : List Thing) (n : ℕ) (bases given : List ℕ) : Type 0 where
  pub stand : AreBases ts bases
  pub earlier : AreEarlier bases n
  pub within : AreScopes ts n given
  pub held : AreHeld t ts given (operations_from ts [] bases)
  pub once : AreOnce (operations_from ts [] bases)

pub none_merged : (t : Table) (ts : List Thing) (n : ℕ) → AreMerged t ts n [] []
none_merged t ts n = record { stand = tt; earlier = tt; within = tt; held = tt; once = tt }

pub held_wider : (t : Table) (ts : List Thing) (ss rs : List ℕ) → ((name : List ℕ) (o : ℕ) → IsFirst (known_in t.declared) ss name o → sort_at t o ≡ operation → IsFirst (known_in t.declared) rs name o) → (os : List ℕ) → AreHeld t ts ss os → AreHeld t ts rs os
held_wider t ts ss rs f [] h = tt
held_wider t ts ss rs f (o ∷ os) h = (
  record {
    name = h.0.name;
    plain = h.0.plain;
    first = f h.0.name o h.0.first h.0.sort;
    sort = h.0.sort;
    given = h.0.given;
    leaves = h.0.leaves;
    there = h.0.there;
    names = h.0.names;
  },
  held_wider t ts ss rs f os h.1,
)

none_in_new : (t : Table) (i : ℕ) (name : List ℕ) → AreInOrder (known_in t.declared) → length t.declared ≤ i + 1 → IsNone (known_in t.declared) (i + 1) name
none_in_new t i name o most k e =
    let a = o.inwards k (i + 1, name) e in
    let b = slice_get_within (known_in t.declared) k (i + 1, name) e in
    let c : length (known_in t.declared) ≡ length t.declared = length-map t.declared known in
    omega arith

-- an interface begins with what its bases give
pub interfaces_opened : (t : Table) (ts : List Thing) (i : ℕ) (bases given : List ℕ) → AreInOrder (known_in t.declared) → slice_get ts i ≡ Some nothing → is_finished (sort_at t i) ≡ false → i < length t.declared → length t.declared ≤ i + 1
    → IsModuleAt t (scope_at t i) → AreMerged t ts i bases given → AreInterfaces t ts → AreInterfaces (finished t i (table.interface given)) (set ts i (interface bases (operations_from ts [] bases)))
interfaces_opened t ts i bases given o there un less most in_module m h =
    let sort = table.interface given in
    let os = operations_from ts [] bases in
    let x = interface bases os in
    let u = finished t i sort in
    let us = set ts i x in
    let k = keeps_set t ts i sort x there un in
    let same = given_same ts us bases [] m.stand (λ b a. set_base ts i x there b (among_base ts bases m.stand b a)) in
    let new : IsInterface u us i bases os = record {
      scopes = given;
      sort = sort_there t i sort less;
      within = scopes_kept t ts u us k i given m.within;
      held = held_kept t ts u us k ((i + 1) ∷ given) os (λ n p f s. subst (λ (ps : List (ℕ × List ℕ)). IsFirst ps ((i + 1) ∷ given) n p) (sym (same_known t i sort)) f)
          (held_wider t ts given ((i + 1) ∷ given) (λ n p f s. inr (none_in_new t i n o most, f)) os m.held);
      once = m.once;
      own = [];
      is = sym same ∙ sym (append-nil (operations_from us [] bases));
      stand = bases_kept t ts u us k bases m.stand;
      earlier = m.earlier;
    } in
    record {
      each = λ j bs ks g. elim (get_set ts i j x (interface bs ks) g) [
        | inl q ↦
            let a : bases ≡ bs = cc in
            let b : os ≡ ks = cc in
            subst (λ (z : ℕ). IsInterface u us z bs ks) q.0 (subst (λ (z : List ℕ). IsInterface u us i bs z) b (subst (λ (z : List ℕ). IsInterface u us i z os) a new))
        | inr q ↦ kept_set t ts i sort x there un j bs ks (h.each j bs ks q.1)
      ];
      placed = placed_set t ts i sort x there un less (λ c. in_module) h.placed;
    }

among_behind : (o k : ℕ) (os : List ℕ) → IsAmong k (os ++ o ∷ []) → IsAmong k os ⊎ (k ≡ o)
among_behind o k [] m = elim m [ inl e ↦ inr e | inr r ↦ absurd r ]
among_behind o k (x ∷ os) m = elim m [ inl e ↦ inl (inl e) | inr r ↦ elim (among_behind o k os r) [ inl a ↦ inl (inr a) | inr a ↦ inr a ] ]

pub once_behind : (o : ℕ) (os : List ℕ) → (IsAmong o os → ⊥) → AreOnce os → AreOnce (os ++ o ∷ [])
once_behind o [] n h = (λ m. m, tt)
once_behind o (x ∷ os) n h = (
  λ m. elim (among_behind o x os m) [ inl a ↦ h.0 a | inr e ↦ n (inl (sym e)) ],
  once_behind o os (λ m. n (inr m)) h.1,
)

pub held_behind : (t : Table) (ts : List Thing) (ss : List ℕ) (o : ℕ) (os : List ℕ) → IsHeld t ts ss o → AreHeld t ts ss os → AreHeld t ts ss (os ++ o ∷ [])
held_behind t ts ss o [] d h = (d, tt)
held_behind t ts ss o (x ∷ os) d h = (h.0, held_behind t ts ss o os d h.1)

-- the interface whose scope is open, after which none is declared
pub record IsOpenAt (ts : List Thing) (scope : ℕ) : Type 0 where
  pub at : ℕ
  pub is : scope ≡ at + 1
  pub bases : List ℕ
  pub os : List ℕ
  pub there : slice_get ts at ≡ Some (interface bases os)
  pub last : (i : ℕ) (bs ks : List ℕ) → slice_get ts i ≡ Some (interface bs ks) → i ≤ at

gained_is : (ts : List Thing) (i o : ℕ) (bs os : List ℕ) → slice_get ts i ≡ Some (interface bs os) → gained i o ts ≡ set ts i (interface bs (os ++ o ∷ []))
gained_is ts i o bs os e = ap (λ (x : Option Thing). set ts i (and_operation o (thing_in x))) e

operations_no_interface : (vs : List OperationView) (n : ℕ) (bs os : List ℕ) → operations vs n ≡ interface bs os → ⊥
operations_no_interface vs n bs os e = absurd cc

keeps_gained : (t : Table) (ts : List Thing) (i o : ℕ) (bs os : List ℕ) → slice_get ts i ≡ Some (interface bs os) → Keeps t ts t (set ts i (interface bs (os ++ o ∷ [])))
keeps_gained t ts i o bs os there = record {
  ops = λ k vs n e. set_elsewhere ts i k _ (λ p. operations_no_interface vs n bs os (same_Some (operations vs n) (interface bs os) (sym e ∙ ap (λ (j : ℕ). slice_get ts j) (sym p) ∙ there))) ∙ e;
  bases = λ k b. elim (cases_eq i k) [
    | inl p ↦ record { bases = bs; operations = os ++ o ∷ []; there = subst (λ (j : ℕ). slice_get (set ts i (interface bs (os ++ o ∷ []))) j ≡ Some (interface bs (os ++ o ∷ []))) p (set_there ts i (interface bs (os ++ o ∷ [])) _ there) }
    | inr p ↦ record { bases = b.bases; operations = b.operations; there = set_elsewhere ts i k _ p ∙ b.there }
  ];
  sorts = λ k h. refl;
  scopes = λ k h. refl;
}

-- the open interface gets one operation more
pub interfaces_gained : (t : Table) (ts : List Thing) (i o : ℕ) (bs os : List ℕ) → slice_get ts i ≡ Some (interface bs os) → ((j : ℕ) (cs ks : List ℕ) → slice_get ts j ≡ Some (interface cs ks) → j ≤ i)
    → ((ss : List ℕ) → IsHeld t ts ((i + 1) ∷ ss) o) → (IsAmong o os → ⊥) → AreInterfaces t ts → AreInterfaces t (gained i o ts)
interfaces_gained t ts i o bs os there last d new h =
    let x = interface bs (os ++ o ∷ []) in
    let us = set ts i x in
    let k = keeps_gained t ts i o bs os there in
    let kept : (j : ℕ) (cs ks : List ℕ) → slice_get ts j ≡ Some (interface cs ks) → IsInterface t us j cs ks = λ j cs ks e.
    let g = h.each j cs ks e in
    let most = last j cs ks e in
    interface_kept t ts t us k j cs ks g (λ n p f s. f)
    (given_same ts us cs [] g.stand (λ b m. let less = among_earlier cs j g.earlier b m in set_elsewhere ts i b x (λ p. absurd (omega arith)))) in
    let old = kept i bs os there in
    let mine = d old.scopes in
    let one = (held_kept t ts t us k ((i + 1) ∷ old.scopes) (o ∷ []) (λ n p f s. f) (mine, tt)).0 in
    let grown : IsInterface t us i bs (os ++ o ∷ []) = record {
      scopes = old.scopes;
      sort = old.sort;
      within = old.within;
      held = held_behind t us ((i + 1) ∷ old.scopes) o os one old.held;
      once = once_behind o os new old.once;
      own = old.own ++ o ∷ [];
      is = ap (λ (ks : List ℕ). ks ++ o ∷ []) old.is ∙ append_assoc (operations_from us [] bs) old.own (o ∷ []);
      stand = old.stand;
      earlier = old.earlier;
    } in
    subst (AreInterfaces t) (sym (gained_is ts i o bs os there)) (record {
      each = λ j cs ks g. elim (get_set ts i j x (interface cs ks) g) [
        | inl q ↦
            let a : bs ≡ cs = cc in
            let b : os ++ o ∷ [] ≡ ks = cc in
            subst (λ (z : ℕ). IsInterface t us z cs ks) q.0 (subst (λ (z : List ℕ). IsInterface t us i cs z) b (subst (λ (z : List ℕ). IsInterface t us i z (os ++ o ∷ [])) a grown))
        | inr q ↦ kept j cs ks q.1
      ];
      placed = h.placed;
    })
